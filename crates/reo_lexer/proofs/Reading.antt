-- Reading token by token.
use Rattle.std.proofs.Common.{◌≡◌, ℕ, List, [], ◌∷◌, ◌++◌, drop, append_assoc, append-nil, Ok, Err, Result}
use Rattle.reo_lexer.specs.declared.token.Token.{Token}
use Rattle.reo_lexer.specs.declared.token.LexFault.{LexFault}
use Rattle.reo_lexer.specs.declared.token.LexFault.TheVariants as faults
use Rattle.reo_lexer.specs.Lexing.{Leads, Runs, AtEnd, IsTokens}
use Rattle.reo_lexer.specs.Faults.{AtFault, IsFault, IsLexed, IsThese, IsThat}
use Rattle.reo_lexer.specs.Skipping.{Finds}
use Rattle.reo_lexer.proofs.Once.{Ending, EndsBy, once}
use Rattle.reo_lexer.proofs.Once.Ending.{done, faulty}

-- What was read so far: whatever runs from the place and the line on, runs from the start behind these tokens.
abbrev pub SoFar : List ℕ → ℕ → ℕ → List Token → Type 0
SoFar text at line ts = (e : Ending) (us : List Token) → Runs (EndsBy e) at line (drop at text) us → Runs (EndsBy e) 0 1 text (ts ++ us)

pub so_far-start : (text : List ℕ) → SoFar text 0 1 []
so_far-start text e us h = h

pub so_far-more : (text : List ℕ) (at line : ℕ) (ts : List Token) (t : Token) → SoFar text at line ts → Leads at line (drop at text) t (drop t.end text)
    → SoFar text t.end t.line (ts ++ t ∷ [])
so_far-more text at line ts t h l e us r = rw append_assoc (h e (t ∷ us) (drop t.end text, l, r))

pub so_far-end : (text : List ℕ) (at line : ℕ) (ts : List Token) → SoFar text at line ts → AtEnd line (drop at text) → IsTokens text ts
so_far-end text at line ts h e = rw append-nil at (h done [] e)

pub so_far-fault : (text : List ℕ) (at line : ℕ) (ts : List Token) (f : LexFault) → SoFar text at line ts → AtFault f line (drop at text) → IsFault text f
so_far-fault text at line ts f h e = (ts, rw append-nil at (h (faulty f) [] e))

-- An answer that is right is the only one.
pub only-these : (text : List ℕ) (r : Result (List Token) LexFault) (ts : List Token) → IsLexed text r → IsTokens text ts → IsThese ts r
only-these text (Ok us) ts h i = (once done done 0 1 text us ts h i).0
only-these text (Err faults.NoMemory) ts h i = tt
only-these text (Err (faults.BadByte l)) ts (us, h) i = let e = (once (faulty (faults.BadByte l)) done 0 1 text us ts h i).1 in absurd (cc)
only-these text (Err (faults.OpenText l)) ts (us, h) i = let e = (once (faulty (faults.OpenText l)) done 0 1 text us ts h i).1 in absurd (cc)
only-these text (Err (faults.NumberTooLong l)) ts (us, h) i = let e = (once (faulty (faults.NumberTooLong l)) done 0 1 text us ts h i).1 in absurd (cc)

pub only-that : (text : List ℕ) (r : Result (List Token) LexFault) (f : LexFault) → IsLexed text r → IsFault text f → IsThat f r
only-that text (Ok us) f h (ts, i) = let e = (once done (faulty f) 0 1 text us ts h i).1 in absurd (cc)
only-that text (Err faults.NoMemory) f h i = tt
only-that text (Err (faults.BadByte l)) f (us, h) (ts, i) = let e = (once (faulty (faults.BadByte l)) (faulty f) 0 1 text us ts h i).1 in cc
only-that text (Err (faults.OpenText l)) f (us, h) (ts, i) = let e = (once (faulty (faults.OpenText l)) (faulty f) 0 1 text us ts h i).1 in cc
only-that text (Err (faults.NumberTooLong l)) f (us, h) (ts, i) = let e = (once (faulty (faults.NumberTooLong l)) (faulty f) 0 1 text us ts h i).1 in cc

pub lexed-fault : (text : List ℕ) (at line : ℕ) (ts : List Token) (f : LexFault) → SoFar text at line ts → Finds text at line (Err f) → IsLexed text (Err f)
lexed-fault text at line ts (faults.BadByte l) h e = so_far-fault text at line ts (faults.BadByte l) h e
lexed-fault text at line ts (faults.OpenText l) h e = so_far-fault text at line ts (faults.OpenText l) h e
lexed-fault text at line ts (faults.NumberTooLong l) h e = so_far-fault text at line ts (faults.NumberTooLong l) h e
lexed-fault text at line ts faults.NoMemory h e = tt

pub one-list : (text : List ℕ) (ts us : List Token) → IsTokens text ts → IsTokens text us → ts ≡ us
one-list text ts us h i = (once done done 0 1 text ts us h i).0

pub one-fault : (text : List ℕ) (f g : LexFault) → IsFault text f → IsFault text g → f ≡ g
one-fault text f g (ts, h) (us, i) = let e = (once (faulty f) (faulty g) 0 1 text ts us h i).1 in cc

pub not-both : (text : List ℕ) (ts : List Token) (f : LexFault) → IsTokens text ts → IsFault text f → ⊥
not-both text ts f h (us, i) = let e = (once done (faulty f) 0 1 text ts us h i).1 in absurd (cc)

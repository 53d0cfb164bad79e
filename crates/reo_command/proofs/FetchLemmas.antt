-- Files that are fetched one after another, and what is read in them.
use Rattle.std.proofs.Common.{◌≡◌, ◌∙◌, ℕ, ◌+◌, ◌≤◌, true, false, List, [], ◌∷◌, ◌++◌, length, sym, subst, ap, refl, append_assoc, arith}
use Rattle.std.proofs.lemmas.List.{append-nil, length-append}
use Rattle.std.specs.Prelude.{Option, Some, None, IfSome, Result, Ok, Err}
use Rattle.reo_values.proofs.Sequences.{not_nil}
use Rattle.reo_io.specs.Fetches.{Folder, fetches_after}
use Rattle.reo_command.specs.declared.role.Role.{Role}
use Rattle.reo_command.specs.declared.stop.Stop.{Stop}
use Rattle.reo_command.specs.declared.stop.Stop.TheVariants.{Missed, TooLong, Refused, NoMemory}
use Rattle.reo_command.specs.Fetched.{Content, gone, long, text, unknown, has_gone, missed, texts_given, long_among, AreTold, AreWithin, AreFetched, AreShort}
use Rattle.reo_command.specs.Readings.{ReadsFile, StopsFile, IsReadAs, IsReadFrom}
use Rattle.reo_command.specs.ReadSteps.{IsTextRead}
use Rattle.reo_command.specs.States.{FilesState, Change}
use Rattle.reo_command.proofs.ReadLemmas.{stop_read}

-- One file, and what its text says.
module _ {X Y : Type 0} (seen_as : X → Y) (role : Role) (Says : List ℕ → Y → Type 0) (TextStops : List ℕ → Stop → Type 0) (names : List (List ℕ)) (files : Change FilesState) where
  text_read : (bytes : List ℕ) (result : Result X Stop) → IsTextRead (λ b x. Says b (seen_as x)) TextStops bytes result → IsReadAs (λ answers x. ReadsFile Says answers (seen_as x)) (StopsFile role TextStops) (text bytes ∷ []) result
  text_read bytes (Ok x) h = h
  text_read bytes (Err (Missed other)) h = h
  text_read bytes (Err (TooLong other)) h = h
  text_read bytes (Err (Refused other r)) h = h
  text_read bytes (Err NoMemory) h = refl

  pub file_read : (bytes seen : List ℕ) (result : Result X Stop) → AreFetched (role ∷ []) names (text bytes ∷ []) files → AreShort (text bytes ∷ []) → seen ≡ bytes → IsTextRead (λ b x. Says b (seen_as x)) TextStops seen result
      → IsReadFrom (λ answers x. ReadsFile Says answers (seen_as x)) (StopsFile role TextStops) (role ∷ []) names files result
  file_read bytes seen result fetched short same read =
      record { answers = text bytes ∷ []; fetched = fetched; short = short; read = text_read bytes result (subst (λ (b : List ℕ). IsTextRead (λ c x. Says c (seen_as x)) TextStops b result) same read) }

-- Behind some files one more stands.
told_more : (folder : Folder) (roles : List Role) (names : List (List ℕ)) (q : Role) (m : List ℕ) (answers : List Content) → AreTold folder roles names answers → AreTold folder (roles ++ q ∷ []) (names ++ m ∷ []) answers
told_more folder [] [] q m [] h = tt
told_more folder [] (n ∷ ns) q m [] h = tt
told_more folder (r ∷ rs) [] q m [] h = tt
told_more folder (r ∷ rs) (n ∷ ns) q m [] h = tt
told_more folder [] [] q m (c ∷ cs) h = absurd h
told_more folder [] (n ∷ ns) q m (c ∷ cs) h = absurd h
told_more folder (r ∷ rs) [] q m (c ∷ cs) h = absurd h
told_more folder (r ∷ rs) (n ∷ ns) q m (c ∷ cs) h = (h.0, told_more folder rs ns q m cs h.1)

missed_more : (names : List (List ℕ)) (m : List ℕ) (answers : List Content) → length answers ≤ length names → missed (names ++ m ∷ []) answers ≡ missed names answers
missed_more [] m [] few = refl
missed_more (n ∷ ns) m [] few = refl
missed_more [] m (c ∷ cs) few = absurd (omega (arith, few))
missed_more (n ∷ ns) m (gone ∷ cs) few = ap (λ (ms : List (List ℕ)). n ∷ ms) (missed_more ns m cs (omega (arith, few)))
missed_more (n ∷ ns) m (long ∷ cs) few = missed_more ns m cs (omega (arith, few))
missed_more (n ∷ ns) m (text bytes ∷ cs) few = missed_more ns m cs (omega (arith, few))
missed_more (n ∷ ns) m (unknown ∷ cs) few = missed_more ns m cs (omega (arith, few))

given_more : (names : List (List ℕ)) (m : List ℕ) (answers : List Content) → length answers ≤ length names → texts_given (names ++ m ∷ []) answers ≡ texts_given names answers
given_more [] m [] few = refl
given_more (n ∷ ns) m [] few = refl
given_more [] m (c ∷ cs) few = absurd (omega (arith, few))
given_more (n ∷ ns) m (gone ∷ cs) few = given_more ns m cs (omega (arith, few))
given_more (n ∷ ns) m (long ∷ cs) few = given_more ns m cs (omega (arith, few))
given_more (n ∷ ns) m (text bytes ∷ cs) few = ap (λ (fs : List (List ℕ × List ℕ)). (n, bytes) ∷ fs) (given_more ns m cs (omega (arith, few)))
given_more (n ∷ ns) m (unknown ∷ cs) few = given_more ns m cs (omega (arith, few))

long_more : (names : List (List ℕ)) (m : List ℕ) (answers : List Content) → length answers ≤ length names → long_among (names ++ m ∷ []) answers ≡ long_among names answers
long_more [] m [] few = refl
long_more (n ∷ ns) m [] few = refl
long_more [] m (c ∷ cs) few = absurd (omega (arith, few))
long_more (n ∷ ns) m (gone ∷ cs) few = long_more ns m cs (omega (arith, few))
long_more (n ∷ ns) m (long ∷ cs) few = ap (λ (ms : List (List ℕ)). n ∷ ms) (long_more ns m cs (omega (arith, few)))
long_more (n ∷ ns) m (text bytes ∷ cs) few = long_more ns m cs (omega (arith, few))
long_more (n ∷ ns) m (unknown ∷ cs) few = long_more ns m cs (omega (arith, few))

within_more : (roles : List Role) (q : Role) (answers : List Content) → AreWithin roles answers → AreWithin (roles ++ q ∷ []) answers
within_more [] q [] h = tt
within_more (r ∷ rs) q [] h = tt
within_more [] q (c ∷ cs) h = absurd h
within_more (r ∷ rs) q (c ∷ cs) h = (h.0, within_more rs q cs h.1)

if_told : {X : Type 0} (o : Option X) (A B : X → Type 0) → ((x : X) → A x → B x) → IfSome o A → IfSome o B
if_told None A B f h = h
if_told (Some x) A B f h = f x h

if_both : {X : Type 0} (o : Option X) (A B C : X → Type 0) → ((x : X) → A x → B x → C x) → IfSome o A → IfSome o B → IfSome o C
if_both None A B C f a b = a
if_both (Some x) A B C f a b = f x a b

module _ (roles : List Role) (names : List (List ℕ)) (q : Role) (m : List ℕ) where
  -- It was not fetched.
  more_fetched : (answers : List Content) (files : Change FilesState) → AreFetched roles names answers files → AreFetched (roles ++ q ∷ []) (names ++ m ∷ []) answers files
  more_fetched answers files f = record {
    few = let e : length (names ++ m ∷ []) ≡ length names + length (m ∷ []) = length-append names (m ∷ []) in omega (arith, f.few, e);
    count = f.count;
    failed = f.failed ∙ ap (λ (xs : List (List ℕ)). files.old.failed ++ xs) (sym (missed_more names m answers f.few));
    within = within_more roles q answers f.within;
    given = f.given ∙ ap (λ (fs : List (List ℕ × List ℕ)). files.old.given ++ fs) (sym (given_more names m answers f.few));
    long_names = f.long_names ∙ ap (λ (ns : List (List ℕ)). files.old.long ++ ns) (sym (long_more names m answers f.few));
    same = f.same;
    told = if_told files.old.told (λ folder. AreTold folder roles names answers) (λ folder. AreTold folder (roles ++ q ∷ []) (names ++ m ∷ []) answers) (λ folder h. told_more folder roles names q m answers h) f.told;
  }

-- All of them were fetched, and then it.
told_then : (folder : Folder) (roles : List Role) (names : List (List ℕ)) (q : Role) (m : List ℕ) (answers more : List Content) → length roles ≡ length names → length answers ≡ length names
    → AreTold folder roles names answers → AreTold folder (q ∷ []) (m ∷ []) more → AreTold folder (roles ++ q ∷ []) (names ++ m ∷ []) (answers ++ more)
told_then folder [] [] q m [] more same all h k = k
told_then folder (r ∷ rs) (n ∷ ns) q m (c ∷ cs) more same all h k = (h.0, told_then folder rs ns q m cs more (omega (arith, same)) (omega (arith, all)) h.1 k)
told_then folder [] (n ∷ ns) q m answers more same all h k = absurd (omega (arith, same))
told_then folder (r ∷ rs) [] q m answers more same all h k = absurd (omega (arith, same))
told_then folder [] [] q m (c ∷ cs) more same all h k = absurd h
told_then folder (r ∷ rs) (n ∷ ns) q m [] more same all h k = absurd (omega (arith, all))

within_then : (roles : List Role) (q : Role) (answers more : List Content) → length answers ≡ length roles → AreWithin roles answers → AreWithin (q ∷ []) more → AreWithin (roles ++ q ∷ []) (answers ++ more)
within_then [] q [] more all h k = k
within_then (r ∷ rs) q (c ∷ cs) more all h k = (h.0, within_then rs q cs more (omega (arith, all)) h.1 k)
within_then [] q (c ∷ cs) more all h k = absurd h
within_then (r ∷ rs) q [] more all h k = absurd (omega (arith, all))

missed_then : (names : List (List ℕ)) (m : List ℕ) (answers more : List Content) → length answers ≡ length names → missed (names ++ m ∷ []) (answers ++ more) ≡ missed names answers ++ missed (m ∷ []) more
missed_then [] m [] more all = refl
missed_then (n ∷ ns) m (gone ∷ cs) more all = ap (λ (ms : List (List ℕ)). n ∷ ms) (missed_then ns m cs more (omega (arith, all)))
missed_then (n ∷ ns) m (long ∷ cs) more all = missed_then ns m cs more (omega (arith, all))
missed_then (n ∷ ns) m (text bytes ∷ cs) more all = missed_then ns m cs more (omega (arith, all))
missed_then (n ∷ ns) m (unknown ∷ cs) more all = missed_then ns m cs more (omega (arith, all))
missed_then [] m (c ∷ cs) more all = absurd (omega (arith, all))
missed_then (n ∷ ns) m [] more all = absurd (omega (arith, all))

given_then : (names : List (List ℕ)) (m : List ℕ) (answers more : List Content) → length answers ≡ length names → texts_given (names ++ m ∷ []) (answers ++ more) ≡ texts_given names answers ++ texts_given (m ∷ []) more
given_then [] m [] more all = refl
given_then (n ∷ ns) m (gone ∷ cs) more all = given_then ns m cs more (omega (arith, all))
given_then (n ∷ ns) m (long ∷ cs) more all = given_then ns m cs more (omega (arith, all))
given_then (n ∷ ns) m (text bytes ∷ cs) more all = ap (λ (fs : List (List ℕ × List ℕ)). (n, bytes) ∷ fs) (given_then ns m cs more (omega (arith, all)))
given_then (n ∷ ns) m (unknown ∷ cs) more all = given_then ns m cs more (omega (arith, all))
given_then [] m (c ∷ cs) more all = absurd (omega (arith, all))
given_then (n ∷ ns) m [] more all = absurd (omega (arith, all))

long_then : (names : List (List ℕ)) (m : List ℕ) (answers more : List Content) → length answers ≡ length names → long_among (names ++ m ∷ []) (answers ++ more) ≡ long_among names answers ++ long_among (m ∷ []) more
long_then [] m [] more all = refl
long_then (n ∷ ns) m (gone ∷ cs) more all = long_then ns m cs more (omega (arith, all))
long_then (n ∷ ns) m (long ∷ cs) more all = ap (λ (ms : List (List ℕ)). n ∷ ms) (long_then ns m cs more (omega (arith, all)))
long_then (n ∷ ns) m (text bytes ∷ cs) more all = long_then ns m cs more (omega (arith, all))
long_then (n ∷ ns) m (unknown ∷ cs) more all = long_then ns m cs more (omega (arith, all))
long_then [] m (c ∷ cs) more all = absurd (omega (arith, all))
long_then (n ∷ ns) m [] more all = absurd (omega (arith, all))

count_then : (answers more : List Content) (k : ℕ) → fetches_after (length more) (fetches_after (length answers) k) ≡ fetches_after (length (answers ++ more)) k
count_then [] more k = refl
count_then (c ∷ cs) more k = count_then cs more _

short_then : (answers more : List Content) → AreShort answers → AreShort more → AreShort (answers ++ more)
short_then [] more h k = k
short_then (c ∷ cs) more h k = (h.0, short_then cs more h.1 k)

gone_then : (answers more : List Content) → has_gone answers ≡ false → has_gone more ≡ false → has_gone (answers ++ more) ≡ false
gone_then [] more h k = k
gone_then (gone ∷ cs) more h k = h
gone_then (long ∷ cs) more h k = gone_then cs more h k
gone_then (text bytes ∷ cs) more h k = gone_then cs more h k
gone_then (unknown ∷ cs) more h k = gone_then cs more h k

module _ (roles : List Role) (names : List (List ℕ)) (q : Role) (m : List ℕ) (answers more : List Content) (before mid after : FilesState) where
  then_fetched : length roles ≡ length names → length answers ≡ length names → AreFetched roles names answers (record { old = before; new = mid }) → AreFetched (q ∷ []) (m ∷ []) more (record { old = mid; new = after })
      → AreFetched (roles ++ q ∷ []) (names ++ m ∷ []) (answers ++ more) (record { old = before; new = after })
  then_fetched same all f g = record {
    few =
        let d : length (answers ++ more) ≡ length answers + length more = length-append answers more in
        let e : length (names ++ m ∷ []) ≡ length names + length (m ∷ []) = length-append names (m ∷ []) in omega (arith, all, g.few, d, e);
    count = g.count ∙ ap (fetches_after (length more)) f.count ∙ count_then answers more before.fetches;
    failed = g.failed ∙ ap (λ (xs : List (List ℕ)). xs ++ missed (m ∷ []) more) f.failed ∙ append_assoc before.failed (missed names answers) (missed (m ∷ []) more)
        ∙ ap (λ (xs : List (List ℕ)). before.failed ++ xs) (sym (missed_then names m answers more all));
    within = within_then roles q answers more (all ∙ sym same) f.within g.within;
    given = g.given ∙ ap (λ (fs : List (List ℕ × List ℕ)). fs ++ texts_given (m ∷ []) more) f.given ∙ append_assoc before.given (texts_given names answers) (texts_given (m ∷ []) more)
        ∙ ap (λ (fs : List (List ℕ × List ℕ)). before.given ++ fs) (sym (given_then names m answers more all));
    long_names = g.long_names ∙ ap (λ (ns : List (List ℕ)). ns ++ long_among (m ∷ []) more) f.long_names ∙ append_assoc before.long (long_among names answers) (long_among (m ∷ []) more)
        ∙ ap (λ (ns : List (List ℕ)). before.long ++ ns) (sym (long_then names m answers more all));
    same = g.same ∙ f.same;
    told = if_both before.told (λ folder. AreTold folder roles names answers) (λ folder. AreTold folder (q ∷ []) (m ∷ []) more) (λ folder. AreTold folder (roles ++ q ∷ []) (names ++ m ∷ []) (answers ++ more))
        (λ folder a b. told_then folder roles names q m answers more same all a b) f.told (subst (λ (o : Option Folder). IfSome o (λ folder. AreTold folder (q ∷ []) (m ∷ []) more)) f.same g.told);
  }

-- What is read in some files, and in one more behind them.
module _ {W X : Type 0} (First : List Content → W → Type 0) (StopsFirst : List Content → Stop → Type 0) (Reads : List Content → X → Type 0) (Stops : List Content → Stop → Type 0)
    (roles : List Role) (names : List (List ℕ)) (q : Role) (m : List ℕ) where
  -- What stops the first stops both.
  pub stopped_first : ((answers : List Content) (s : Stop) → StopsFirst answers s → Stops answers s) → (s : Stop) (files : Change FilesState)
      → IsReadFrom First StopsFirst roles names files (Err s) → IsReadFrom Reads Stops (roles ++ q ∷ []) (names ++ m ∷ []) files (Err s)
  stopped_first stops s files read = record {
    answers = read.answers;
    fetched = more_fetched roles names q m read.answers files read.fetched;
    short = read.short;
    read = stop_read First Reads StopsFirst Stops read.answers read.answers (stops read.answers) (λ here. here) s read.read;
  }

  module _ {Y : Type 0} (Next : List Content → Y → Type 0) (StopsNext : List Content → Stop → Type 0) (before mid after : FilesState) (answers : List Content) (same : length roles ≡ length names) (all : length answers ≡ length names)
      (fetched : AreFetched roles names answers (record { old = before; new = mid })) (short : AreShort answers) (here : has_gone answers ≡ false) where
    -- The next stops them.
    pub stopped_next : ((more : List Content) (s : Stop) → StopsNext more s → Stops (answers ++ more) s) → (s : Stop)
        → IsReadFrom Next StopsNext (q ∷ []) (m ∷ []) (record { old = mid; new = after }) (Err s) → IsReadFrom Reads Stops (roles ++ q ∷ []) (names ++ m ∷ []) (record { old = before; new = after }) (Err s)
    stopped_next stops s next = record {
      answers = answers ++ next.answers;
      fetched = then_fetched roles names q m answers next.answers before mid after same all fetched next.fetched;
      short = short_then answers next.answers short next.short;
      read = stop_read Next Reads StopsNext Stops next.answers (answers ++ next.answers) (stops next.answers) (gone_then answers next.answers here) s next.read;
    }

    -- All are read.
    pub read_next : (y : Y) (x : X) → ((more : List Content) → Next more y → Reads (answers ++ more) x)
        → IsReadFrom Next StopsNext (q ∷ []) (m ∷ []) (record { old = mid; new = after }) (Ok y) → IsReadFrom Reads Stops (roles ++ q ∷ []) (names ++ m ∷ []) (record { old = before; new = after }) (Ok x)
    read_next y x reads next = record {
      answers = answers ++ next.answers;
      fetched = then_fetched roles names q m answers next.answers before mid after same all fetched next.fetched;
      short = short_then answers next.answers short next.short;
      read = reads next.answers next.read;
    }

no_gone : false ≡ true → ⊥
no_gone e = cc

-- A file that cannot be had is noted.
pub is_noted : (names : List (List ℕ)) (answers : List Content) → length answers ≤ length names → has_gone answers ≡ true → missed names answers ≡ [] → ⊥
is_noted names [] few gone_is none = no_gone gone_is
is_noted [] (c ∷ cs) few gone_is none = omega (arith, few)
is_noted (n ∷ ns) (gone ∷ cs) few gone_is none = not_nil n (missed ns cs) none
is_noted (n ∷ ns) (long ∷ cs) few gone_is none = is_noted ns cs (omega (arith, few)) gone_is none
is_noted (n ∷ ns) (text bytes ∷ cs) few gone_is none = is_noted ns cs (omega (arith, few)) gone_is none
is_noted (n ∷ ns) (unknown ∷ cs) few gone_is none = is_noted ns cs (omega (arith, few)) gone_is none

-- No file is fetched.
told_none : (folder : Folder) (names : List (List ℕ)) → AreTold folder [] names []
told_none folder [] = tt
told_none folder (n ∷ ns) = tt

missed_none : (names : List (List ℕ)) → missed names [] ≡ []
missed_none [] = refl
missed_none (n ∷ ns) = refl

given_none : (names : List (List ℕ)) → texts_given names [] ≡ []
given_none [] = refl
given_none (n ∷ ns) = refl

long_none : (names : List (List ℕ)) → long_among names [] ≡ []
long_none [] = refl
long_none (n ∷ ns) = refl

-- What holds of each holds of what there may be.
pub if_any : {X : Type 0} (o : Option X) (B : X → Type 0) → ((x : X) → B x) → IfSome o B
if_any None B f = tt
if_any (Some x) B f = f x

pub none_fetched : (names : List (List ℕ)) (files : Change FilesState) → files.new ≡ files.old → AreFetched [] names [] files
none_fetched names files same = record {
  few = omega arith;
  count = ap (λ (f : FilesState). f.fetches) same;
  failed = ap (λ (f : FilesState). f.failed) same ∙ sym (append-nil files.old.failed) ∙ ap (λ (ns : List (List ℕ)). files.old.failed ++ ns) (sym (missed_none names));
  within = tt;
  given = ap (λ (f : FilesState). f.given) same ∙ sym (append-nil files.old.given) ∙ ap (λ (fs : List (List ℕ × List ℕ)). files.old.given ++ fs) (sym (given_none names));
  long_names = ap (λ (f : FilesState). f.long) same ∙ sym (append-nil files.old.long) ∙ ap (λ (ns : List (List ℕ)). files.old.long ++ ns) (sym (long_none names));
  same = ap (λ (f : FilesState). f.told) same;
  told = if_any files.old.told (λ folder. AreTold folder [] names []) (λ folder. told_none folder names);
}

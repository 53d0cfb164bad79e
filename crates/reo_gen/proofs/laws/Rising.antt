-- In a made circuit items only rise, but in its buffers.
use Rattle.std.proofs.Common.{arith, ◌≡◌, ℕ, ◌+◌, ◌*◌, ◌<◌, ◌≤◌, ◌^◌, ◌==◌, zero, suc, List, [], ◌∷◌, ◌++◌, map, true, false, cond, ◌||◌, refl, sym, ap, subst, codes}
use Rattle.std.proofs.lemmas.Bool.{and_parts}
use Rattle.std.specs.List.{AllByRecursion, flat_map, range_with_len, list_all}
use Rattle.std.specs.Fmt.{decimal}
use Rattle.std.proofs.lemmas.Bool.Decides.{nat_tests}
use Rattle.reo_values.specs.Names.{is_digit}
use Rattle.reo_grammar.specs.Spelling.{is_digits}
use Rattle.reo_lexer.proofs.Spelled.{digit-parts}
use Rattle.reo_syntax.proofs.Decimals.{decimal-value}
use Rattle.reo_kinds.specs.declared.kind.Kind.{Kind}
use Rattle.reo_kinds.specs.declared.kind.Kind.TheVariants.{Writer, Taker, Sync, Lossy, SyncDrain, Store}
use Rattle.reo_net_base.specs.Wired.{NoCycle}
use Rattle.reo_net_base.specs.Net.{from_sides, to_sides}
use Rattle.reo_flat.specs.Unfolding.{Placed}
use Rattle.reo_flat.specs.Flat.{net_of_program, port_placed, placed_of, nodes_of}
use Rattle.reo_flat.proofs.flatten_laws.Each.{both}
use Rattle.reo_gen.specs.Names.{link, output}
use Rattle.reo_gen.specs.Circuits.{source_of, sink_of}
use Rattle.reo_gen.proofs.laws.Trees.{Places, declarations_of}
use Rattle.reo_gen.proofs.laws.Rules.{source-one}
use Rattle.reo_gen.proofs.laws.ScriptChecks.{made_ports, in_port, out_port}
use Rattle.reo_gen.proofs.laws.Placing.{between, empty_buffer, stage_placed, stage_at, path_of, made_placed, placed-are}
use Rattle.reo_gen.proofs.laws.Ranks.{IsRanked, ranked-no-cycle}

-- The last byte of a name.
abbrev last_byte : List ℕ → ℕ
last_byte [] = 0
last_byte (b ∷ []) = b
last_byte (b ∷ c ∷ bs) = last_byte (c ∷ bs)

last-one : (xs : List ℕ) (b : ℕ) → last_byte (xs ++ b ∷ []) ≡ b
last-one [] b = refl
last-one (x ∷ []) b = refl
last-one (x ∷ y ∷ xs) b = last-one (y ∷ xs) b

-- How high the node lies in its stage: x and y above the nodes of main, and the others above these.
abbrev byte_rank : ℕ → ℕ
byte_rank b = cond (b == 120 || b == 121) 1 (cond (b == 107 || (b == 112 || b == 113)) 2 0)

abbrev rank : List ℕ → ℕ
rank name = byte_rank (last_byte name)

inner-rank : (path : List ℕ) (b : ℕ) → rank (path ++ b ∷ []) ≡ byte_rank b
inner-rank path b = ap byte_rank (last-one path b)

last-digit : (b : ℕ) (ds : List ℕ) → is_digits ds ≡ true → is_digit (last_byte (b ∷ ds)) ≡ true
last-digit b [] h = absurd (cc)
last-digit b (d ∷ []) h = (and_parts (is_digit d) true h).0
last-digit b (d ∷ e ∷ ds) h = last-digit d (e ∷ ds) ((and_parts (is_digit d) (list_all is_digit (e ∷ ds)) h).1)

digit-low : (d : ℕ) → is_digit d ≡ true → byte_rank d ≡ 0
digit-low d h =
    let (l, u) = digit-parts d h in
    let x : (d == 120) ≡ false = grind (arith, nat_tests) in
    let y : (d == 121) ≡ false = grind (arith, nat_tests) in
    let k : (d == 107) ≡ false = grind (arith, nat_tests) in
    let p : (d == 112) ≡ false = grind (arith, nat_tests) in
    let q : (d == 113) ≡ false = grind (arith, nat_tests) in
    λ i. cond (x i || y i) 1 (cond (k i || (p i || q i)) 2 0)

link-low : (j : ℕ) → j < 2 ^ 64 → rank (link j) ≡ 0
link-low j h = digit-low (last_byte (link j)) (last-digit 115 (decimal j) (decimal-value j h).0)

source-low : (j : ℕ) → j < 2 ^ 64 → rank (source_of j) ≡ 0
source-low j h = source-one (λ a. rank a ≡ 0) j refl (λ e. link-low _ (omega arith))

-- The ranks of the sides of what is placed.
abbrev ranks_by : Kind → List (List ℕ) → List ℕ
ranks_by (Writer port) (a ∷ ns) = (3 * rank a) ∷ []
ranks_by (Taker port) (a ∷ ns) = (3 * rank a + 3) ∷ []
ranks_by Sync (a ∷ b ∷ ns) = (3 * rank b) ∷ []
ranks_by Lossy (a ∷ b ∷ ns) = (3 * rank b) ∷ []
ranks_by SyncDrain (a ∷ b ∷ ns) = (3 * (rank a + rank b) + 3) ∷ []
ranks_by (Store held) (a ∷ b ∷ ns) = (3 * rank a + 3) ∷ (3 * rank b) ∷ []
ranks_by kind ns = []

abbrev ranks : Placed → List ℕ
ranks p = ranks_by p.kind p.nodes

sync-ranked : (a b : List ℕ) → rank a < rank b → IsRanked rank (between Sync a b) (ranks (between Sync a b))
sync-ranked a b h = record {
  each = refl;
  right = (record { within = omega arith; above = λ t. omega arith; below = λ t. absurd (cc) }, (record { within = omega arith; above = λ t. absurd (cc); below = λ t. omega arith }, tt));
}

lossy-ranked : (a b : List ℕ) → rank a < rank b → IsRanked rank (between Lossy a b) (ranks (between Lossy a b))
lossy-ranked a b h = record {
  each = refl;
  right = (record { within = omega arith; above = λ t. omega arith; below = λ t. absurd (cc) }, (record { within = omega arith; above = λ t. absurd (cc); below = λ t. omega arith }, tt));
}

drain-ranked : (a b : List ℕ) → IsRanked rank (between SyncDrain a b) (ranks (between SyncDrain a b))
drain-ranked a b = record {
  each = refl;
  right = (record { within = omega arith; above = λ t. omega arith; below = λ t. absurd (cc) }, (record { within = omega arith; above = λ t. omega arith; below = λ t. absurd (cc) }, tt));
}

buffer-ranked : (a b : List ℕ) → IsRanked rank (between empty_buffer a b) (ranks (between empty_buffer a b))
buffer-ranked a b = record {
  each = refl;
  right = (record { within = omega arith; above = λ t. omega arith; below = λ t. absurd (cc) }, (record { within = omega arith; above = λ t. absurd (cc); below = λ t. omega arith }, tt));
}

in-ranked : IsRanked rank (port_placed in_port) (ranks (port_placed in_port))
in-ranked = record { each = refl; right = (record { within = omega arith; above = λ t. absurd (cc); below = λ t. omega arith }, tt) }

out-ranked : (j : ℕ) → IsRanked rank (port_placed (out_port j)) (ranks (port_placed (out_port j)))
out-ranked j = record { each = refl; right = (record { within = omega arith; above = λ t. omega arith; below = λ t. absurd (cc) }, tt) }

abbrev Ranked : Placed → Type 0
Ranked p = IsRanked rank p (ranks p)

above-main : (path a : List ℕ) (b : ℕ) → rank a ≡ 0 → byte_rank b ≡ 1 → rank a < rank (path ++ b ∷ [])
above-main path a b h k = let e = inner-rank path b in omega arith

above-inner : (path : List ℕ) (b c : ℕ) → byte_rank b ≡ 1 → byte_rank c ≡ 2 → rank (path ++ b ∷ []) < rank (path ++ c ∷ [])
above-inner path b c h k = let e = inner-rank path b in let f = inner-rank path c in omega arith

stage-ranked : (path a b c : List ℕ) → rank a ≡ 0 → AllByRecursion Ranked (stage_placed path a b c)
stage-ranked path a b c low = (
  lossy-ranked a (path ++ codes "x") (above-main path a 120 low refl),
  (
    lossy-ranked a (path ++ codes "y") (above-main path a 121 low refl),
    (
      sync-ranked (path ++ codes "x") (path ++ codes "p") (above-inner path 120 112 refl refl),
      (
        sync-ranked (path ++ codes "x") (path ++ codes "k") (above-inner path 120 107 refl refl),
        (
          sync-ranked (path ++ codes "y") (path ++ codes "q") (above-inner path 121 113 refl refl),
          (
            sync-ranked (path ++ codes "y") (path ++ codes "k") (above-inner path 121 107 refl refl),
            (
              drain-ranked a (path ++ codes "k"),
              (buffer-ranked (path ++ codes "p") b, (buffer-ranked (path ++ codes "q") c, tt)),
            ),
          ),
        ),
      ),
    ),
  ),
)

outs-ranked : (a k : ℕ) → AllByRecursion Ranked (map port_placed (map out_port (range_with_len a k)))
outs-ranked a zero = tt
outs-ranked a (suc k) = (out-ranked a, outs-ranked (a + 1) k)

stages-ranked : (n a k : ℕ) → a + k ≤ 300 → AllByRecursion Ranked (flat_map (stage_at n) (range_with_len a k))
stages-ranked n a zero few = tt
stages-ranked n a (suc k) few = both Ranked (stage_at n a) (flat_map (stage_at n) (range_with_len (a + 1) k)) (stage-ranked (path_of a) (source_of a) (sink_of n a) (output a) (source-low a (omega arith))) (stages-ranked n (a + 1) k (omega arith))

all-ranked : (n : ℕ) → n ≤ 256 → AllByRecursion Ranked (made_placed n)
all-ranked n few = both Ranked (map port_placed (made_ports n)) (flat_map (stage_at n) (range_with_len 1 n)) (in-ranked, outs-ranked 0 (n + 1)) (stages-ranked n 1 n (omega arith))

-- So no directed cycle is there.
pub no-cycle-made : (n : ℕ) (at : Places) → n ≤ 256 → NoCycle (from_sides (net_of_program (declarations_of n at))) (to_sides (net_of_program (declarations_of n at)))
no-cycle-made n at few =
    ranked-no-cycle rank ranks (placed_of (declarations_of n at)) (nodes_of (declarations_of n at)) (net_of_program (declarations_of n at))
    (subst (λ ps. AllByRecursion Ranked ps) (sym (placed-are n at)) (all-ranked n few)) refl refl

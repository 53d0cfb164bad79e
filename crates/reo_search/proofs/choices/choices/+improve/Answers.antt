use Rattle.std.proofs.Common.{◌≡◌, ◌∙◌, ◌+◌, ◌-◌, ◌<◌, ◌≤◌, ◌∷◌, ◌++◌, [], ℕ, Bool, List, Option, length, get_or, take, drop, take_all, ap, sym, subst, arith, length-append}
use Rattle.std.proofs.lemmas.List.{take_more, get_or_default}
use Rattle.std.proofs.Math.Seq.{take-append_seam}
use Rattle.reo_net_base.specs.Net.{Net, net_of}
use Rattle.reo_joint_values.specs.Values.{Names}
use Rattle.reo_search.specs.choices.Remaining.{choices_of}
use Rattle.reo_propagate.specs.declared.state.State.{State}
use Rattle.reo_search.specs.choices.Trying.{MayRestartOn, HasCodes, HasNextOf, CoverWith}
use Rattle.reo_search.specs.choices.Best.{IsBetter}
use Rattle.reo_search.specs.choices.KnotSearch.{IsFront, inside_of, names_in}
use Rattle.reo_search.proofs.choices.Counted.{steps_more}
use Rattle.reo_search.proofs.choices.Bettering.{better_same, better_of_two}
use Rattle.reo_search.proofs.choices.Tried.{next_left, next_right, next_cases, next_all, cover_more}
use Rattle.reo_search.proofs.choices.Singles.{singles_less, singles_all, singles_cover}
use Rattle.reo_search.proofs.choices.choices.+improve.Goals as goal
use Rattle.reo_search.proofs.choices.choices.+improve.Goals.{in-None, in-Some+in_ok-improve-in-Some}

pushed_is : (before codes now : List ℕ) (x : ℕ) → now ≡ before ++ x ∷ [] → before ≡ codes → now ≡ codes ++ x ∷ []
pushed_is before codes now x pushed is = pushed ∙ ap (λ (xs : List ℕ). xs ++ x ∷ []) is

pub try_front-requires-clause-front : goal.try_front-requires-clause-front
try_front-requires-clause-front g t c =
    let net : Net = net_of g.P.Primitive.behaviour c.args.searched.now.basis.now.circuit.now in
    let names : Names = names_in c.args.searched.now in
    let inside : ℕ → Bool = inside_of c.args.searched.now in
    let loops : List ℕ = c.args.searched.now.loops.now in
    let left : List (List ℕ) = c.args.left.now in
    let codes : List ℕ = c.push_single.new.codes in
    let x : ℕ = c.at.result.now in
    let sliced : c.as_slice-in-loop-index.result.now ≡ codes ++ x ∷ [] =
    c.as_slice-in-loop-index.ensures ∙ pushed_is c.loop-index.codes codes c.push.new.self x c.in_ok-push.ensures.ok c.loop-index.invariant.codes_are in
    let singles = c.in_ok-push_single.ensures in
    let long : length (codes ++ x ∷ []) ≡ length codes + 1 = length-append codes (x ∷ []) in
    let under : length codes < length loops = omega (arith, singles.within, c.requires.front.one_each, c.if-many-searched.false, c.len-many.ensures) in
    subst (λ (xs : List ℕ). IsFront net c.args.searched.now xs left) (sym sliced) (record {
      within = omega (arith, long, under);
      one_each = c.requires.front.one_each;
      cover = cover_more net names inside loops codes left x (singles_cover net names inside loops left c.args.codes.now codes singles c.requires.front.cover);
    })

pub improve-requires : goal.improve-requires
improve-requires g t c =
    let net : Net = net_of g.P.Primitive.behaviour c.args.searched.now.basis.now.circuit.now in
    let names : Names = names_in c.args.searched.now in
    let inside : ℕ → Bool = inside_of c.args.searched.now in
    let loops : List ℕ = c.args.searched.now.loops.now in
    let codes : List ℕ = c.push_single.new.codes in
    let x : ℕ = c.at.result.now in
    let singles = c.in_ok-push_single.ensures in
    let pushed : c.push.new.self ≡ codes ++ x ∷ [] = pushed_is c.loop-index.codes codes c.push.new.self x c.in_ok-push.ensures.ok c.loop-index.invariant.codes_are in
    let long : length c.push.new.self ≡ length codes + 1 = ap length pushed ∙ length-append codes (x ∷ []) in
    let under : length codes < length loops = omega (arith, singles.within, c.requires.front.one_each, c.if-many-searched.false, c.len-many.ensures) in
    let more = rw (c.in-Some.is) at c.in_ok-rest.ensures.found in
    let cover = subst (λ (xs : List ℕ). CoverWith net names inside loops xs c.in-Some.kept) c.as_slice-in-loop-index.ensures more.2.cover in
    λ κs h. (
      subst (λ (n : ℕ). length loops - length c.push.new.self < n) c.decreases (omega (arith, long, under, singles.longer)),
      (h.0, (h.1, (c.in_ok-rest.ensures.tables, (c.requires.searched, record { within = omega (arith, long, under); one_each = more.2.one_each; cover = cover })))),
    )

pub loop-index-preserved : goal.loop-index-preserved
loop-index-preserved g t c =
    let net : Net = net_of g.P.Primitive.behaviour c.args.searched.now.basis.now.circuit.now in
    let names : Names = names_in c.args.searched.now in
    let inside : ℕ → Bool = inside_of c.args.searched.now in
    let loops : List ℕ = c.args.searched.now.loops.now in
    let left : List (List ℕ) = c.args.left.now in
    let codes : List ℕ = c.push_single.new.codes in
    let list : List ℕ = c.at-next.result.now in
    let i : ℕ = c.loop-index.index in
    let x : ℕ = c.at.result.now in
    let lt : i < length list = omega (arith, c.loop-index-test.true, c.len-index-end.ensures) in
    let x_is : get_or list i 0 ≡ x = sym (c.at.ensures ∙ get_or_default list i x 0 lt) in
    let taken : take (i + 1) list ≡ take i list ++ x ∷ [] = take_more list i 0 lt ∙ ap (λ (y : ℕ). take i list ++ y ∷ []) x_is in
    let pushed : c.push.new.self ≡ codes ++ x ∷ [] = pushed_is c.loop-index.codes codes c.push.new.self x c.in_ok-push.ensures.ok c.loop-index.invariant.codes_are in
    let sliced : c.as_slice-in-loop-index.result.now ≡ codes ++ x ∷ [] = c.as_slice-in-loop-index.ensures ∙ pushed in
    let long : length (codes ++ x ∷ []) ≡ length codes + 1 = length-append codes (x ∷ []) in
    let rest : ℕ = choices_of (drop (length codes + 1) left) in
    let here : IsBetter (HasCodes net names inside loops (codes ++ x ∷ [])) net c.args.searched.now.turn c.args.searched.now.places.now c.loop-index.best c.match-rest.best =
    elim c.match-rest.branch [
      | in-None w ↦
          let found = rw (w.in-None.is) at c.in_ok-rest.ensures.found in
          subst (λ (o : Option (List ℕ)). IsBetter (HasCodes net names inside loops (codes ++ x ∷ [])) net c.args.searched.now.turn c.args.searched.now.places.now c.loop-index.best o) (sym w.best-is)
          (subst (λ (xs : List ℕ). IsBetter (HasCodes net names inside loops xs) net c.args.searched.now.turn c.args.searched.now.places.now c.loop-index.best c.try_front.new.best) sliced found)
      | in-Some+in_ok-improve-in-Some w ↦
          let more = rw (w.in-Some.is) at c.in_ok-rest.ensures.found in
          subst (λ (o : Option (List ℕ)). IsBetter (HasCodes net names inside loops (codes ++ x ∷ [])) net c.args.searched.now.turn c.args.searched.now.places.now c.loop-index.best o) (sym w.best-is)
          (subst (λ (o : Option (List ℕ)). IsBetter (HasCodes net names inside loops (codes ++ x ∷ [])) net c.args.searched.now.turn c.args.searched.now.places.now o w.improve.new.best) more.0
          (subst (λ (xs : List ℕ). IsBetter (HasCodes net names inside loops xs) net c.args.searched.now.turn c.args.searched.now.places.now c.try_front.new.best w.improve.new.best) pushed w.in_ok-improve-in-Some.ensures.better))
    ] in
    let codes_are : c.match-rest.codes ≡ codes ++ x ∷ [] =
    elim c.match-rest.branch [ in-None w ↦ w.codes-is ∙ pushed | in-Some+in_ok-improve-in-Some w ↦ w.codes-is ∙ w.in_ok-improve-in-Some.ensures.codes ∙ pushed ] in
    let steps : c.match-rest.steps ≤ c.loop-index.steps + rest =
    elim c.match-rest.branch [
      | in-None w ↦
          let few = subst (λ (n : ℕ). c.try_front.new.steps ≤ c.loop-index.steps + choices_of (drop n left)) (ap length sliced ∙ long) c.try_front.ensures.ticks in
          omega (arith, w.steps-is, few)
      | in-Some+in_ok-improve-in-Some w ↦
          let more = rw (w.in-Some.is) at c.in_ok-rest.ensures.found in
          let few = subst (λ (n : ℕ). w.improve.new.steps ≤ c.try_front.new.steps + choices_of (drop n w.in-Some.kept)) (ap length pushed ∙ long) w.in_ok-improve-in-Some.ensures.ticks in
          let fewer = subst (λ (n : ℕ). choices_of (drop n w.in-Some.kept) ≤ choices_of (drop n left)) (ap length sliced ∙ long) more.2.fewer in
          omega (arith, w.steps-is, few, fewer, more.1)
    ] in
    record {
      better = subst (λ (xs : List ℕ). IsBetter (HasNextOf net names inside loops codes xs) net c.args.searched.now.turn c.args.searched.now.places.now c.args.best.now c.match-rest.best) (sym taken)
          (better_of_two net c.args.searched.now.turn c.args.searched.now.places.now (HasNextOf net names inside loops codes (take i list)) (HasCodes net names inside loops (codes ++ x ∷ [])) (HasNextOf net names inside loops codes (take i list ++ x ∷ []))
          (next_left net names inside loops codes (take i list) x) (next_right net names inside loops codes (take i list) x) (next_cases net names inside loops codes (take i list) x)
          c.args.best.now c.loop-index.best c.match-rest.best c.loop-index.invariant.better here);
      codes_are = c.truncate-in-loop-index.ensures ∙ ap (take c.len-many.result) codes_are ∙ ap (λ (n : ℕ). take n (codes ++ x ∷ [])) c.len-many.ensures ∙ take-append_seam codes (x ∷ []);
      tables = elim c.match-rest.branch [
        | in-None w ↦ subst (λ (s : State). MayRestartOn net c.args.searched.now.basis.now s) (sym w.state-is) c.in_ok-rest.ensures.tables
        | in-Some+in_ok-improve-in-Some w ↦ subst (λ (s : State). MayRestartOn net c.args.searched.now.basis.now s) (sym w.state-is) w.in_ok-improve-in-Some.ensures.tables
      ];
      ticks = steps_more c.args.steps.now c.loop-index.steps c.match-rest.steps i rest c.loop-index.invariant.ticks steps;
    }

pub returns-then-many-searched-clause-better : goal.returns-then-many-searched-clause-better
returns-then-many-searched-clause-better g t c =
    let net : Net = net_of g.P.Primitive.behaviour c.args.searched.now.basis.now.circuit.now in
    let names : Names = names_in c.args.searched.now in
    let inside : ℕ → Bool = inside_of c.args.searched.now in
    let loops : List ℕ = c.args.searched.now.loops.now in
    let singles = c.in_ok-push_single.ensures in
    let found = subst (λ (xs : List ℕ). IsBetter (HasCodes net names inside loops xs) net c.args.searched.now.turn c.args.searched.now.places.now c.args.best.now c.try_choice.new.best) c.as_slice.ensures c.in_ok-try_choice.ensures.better in
    better_same net c.args.searched.now.turn c.args.searched.now.places.now (HasCodes net names inside loops c.push_single.new.codes) (HasCodes net names inside loops c.args.codes.now)
    (singles_less net names inside loops c.args.left.now c.args.codes.now c.push_single.new.codes singles)
    (singles_all net names inside loops c.args.left.now c.args.codes.now c.push_single.new.codes singles c.requires.front.cover c.requires.front.one_each) c.args.best.now c.try_choice.new.best found

pub returns-clause-better : goal.returns-clause-better
returns-clause-better g t c =
    let net : Net = net_of g.P.Primitive.behaviour c.args.searched.now.basis.now.circuit.now in
    let names : Names = names_in c.args.searched.now in
    let inside : ℕ → Bool = inside_of c.args.searched.now in
    let loops : List ℕ = c.args.searched.now.loops.now in
    let old : List ℕ = c.args.codes.now in
    let codes : List ℕ = c.push_single.new.codes in
    let left : List (List ℕ) = c.args.left.now in
    let list : List ℕ = c.at-next.result.now in
    let singles = c.in_ok-push_single.ensures in
    let under : length codes < length loops = omega (arith, singles.within, c.requires.front.one_each, c.if-many-searched.false, c.len-many.ensures) in
    let many_lt : c.len-many.result < length left = omega (arith, under, c.len-many.ensures, c.requires.front.one_each) in
    let list_is : list ≡ get_or left (length codes) [] = c.at-next.ensures ∙ get_or_default left c.len-many.result list [] many_lt ∙ ap (λ (n : ℕ). get_or left n []) c.len-many.ensures in
    let whole : take c.loop-index.index list ≡ list = take_all c.loop-index.index list (omega (arith, c.loop-index-test.false, c.len-index-end.ensures)) in
    let best = subst (λ (xs : List ℕ). IsBetter (HasNextOf net names inside loops codes xs) net c.args.searched.now.turn c.args.searched.now.places.now c.args.best.now c.loop-index.best) (whole ∙ list_is) c.loop-index.invariant.better in
    better_same net c.args.searched.now.turn c.args.searched.now.places.now (HasNextOf net names inside loops codes (get_or left (length codes) [])) (HasCodes net names inside loops old)
    (λ rows choice h. singles_less net names inside loops left old codes singles rows choice h.has)
    (λ rows choice h. next_all net names inside loops codes left (singles_cover net names inside loops left old codes singles c.requires.front.cover) under rows choice (singles_all net names inside loops left old codes singles c.requires.front.cover c.requires.front.one_each rows choice h))
    c.args.best.now c.loop-index.best best

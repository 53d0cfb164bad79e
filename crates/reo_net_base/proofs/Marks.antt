-- Which marks flow.
use Rattle.std.proofs.Common.{◌≡◌, ◌≢◌, ◌⊎◌, inl, inr, true, false, refl, ap, sym, ◌∙◌}
use Rattle.reo_net_base.specs.declared.mark.Mark.{Mark}
use Rattle.reo_net_base.specs.declared.mark.Mark.TheVariants.{F, G, R, J}
use Rattle.reo_net_base.specs.Marks.{marks_match, is_flow}

-- A mark is flow or not.
pub flow_cases : (m : Mark) → (m ≡ F) ⊎ (m ≢ F)
flow_cases F = inl refl
flow_cases G = inr (λ e. cc)
flow_cases R = inr (λ e. cc)
flow_cases J = inr (λ e. cc)

-- What the test of flow says.
pub mark_flows : (m : Mark) → is_flow m ≡ true → m ≡ F
mark_flows F h = refl
mark_flows G h = cc
mark_flows R h = cc
mark_flows J h = cc

pub mark_still : (m : Mark) → is_flow m ≡ false → m ≢ F
mark_still m h is = let wrong : false ≡ true = sym h ∙ ap is_flow is in cc

-- By the joint rule a giver flows where its taker does.
pub giver_flows : (giver taker : Mark) → marks_match giver taker ≡ true → taker ≡ F → giver ≡ F
giver_flows F taker h e = refl
giver_flows G F h e = cc
giver_flows G G h e = cc
giver_flows G R h e = cc
giver_flows G J h e = cc
giver_flows R F h e = cc
giver_flows R G h e = cc
giver_flows R R h e = cc
giver_flows R J h e = cc
giver_flows J F h e = cc
giver_flows J G h e = cc
giver_flows J R h e = cc
giver_flows J J h e = cc

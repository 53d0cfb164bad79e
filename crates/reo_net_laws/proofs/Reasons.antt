-- The reason that an end requires is given by the other end of its joint.
use Rattle.std.proofs.Common.{◌≡◌, true, get_or, refl}
use Rattle.reo_net_base.specs.declared.mark.Mark.{Mark}
use Rattle.reo_net_base.specs.declared.mark.Mark.TheVariants.{F, G, R, J}
use Rattle.reo_net_base.specs.Marks.{marks_match}
use Rattle.reo_net_base.specs.Net.{mark_at}
use Rattle.reo_net_laws.specs.Reasons.{ReasonsAreGiven}

to_giver : (m n : Mark) → marks_match m n ≡ true → m ≡ R → n ≡ G
to_giver F F h e = cc
to_giver F G h e = cc
to_giver F R h e = cc
to_giver F J h e = cc
to_giver G F h e = cc
to_giver G G h e = cc
to_giver G R h e = cc
to_giver G J h e = cc
to_giver R F h e = cc
to_giver R G h e = refl
to_giver R R h e = cc
to_giver R J h e = cc
to_giver J F h e = cc
to_giver J G h e = cc
to_giver J R h e = cc
to_giver J J h e = cc

to_taker : (m n : Mark) → marks_match m n ≡ true → n ≡ R → m ≡ G
to_taker F F h e = cc
to_taker F G h e = cc
to_taker F R h e = cc
to_taker F J h e = cc
to_taker G F h e = cc
to_taker G G h e = cc
to_taker G R h e = refl
to_taker G J h e = cc
to_taker R F h e = cc
to_taker R G h e = cc
to_taker R R h e = cc
to_taker R J h e = cc
to_taker J F h e = cc
to_taker J G h e = cc
to_taker J R h e = cc
to_taker J J h e = cc

pub reasons_given : ReasonsAreGiven
reasons_given net rows items is j d lt =
    let joint = get_or net.joints j d in
    record {
      to_giver = to_giver (mark_at net rows joint.giver) (mark_at net rows joint.taker) (is.rows_fit.matched j d lt);
      to_taker = to_taker (mark_at net rows joint.giver) (mark_at net rows joint.taker) (is.rows_fit.matched j d lt);
    }

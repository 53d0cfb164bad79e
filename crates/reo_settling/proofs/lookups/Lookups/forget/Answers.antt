use Rattle.std.proofs.Common.{Bool, List, true, refl, subst}
use Rattle.reo_flags.specs.Where.{AreKeptWhere}
use Rattle.reo_settling.proofs.HeldTables.{fresh_kept}
use Rattle.reo_settling.proofs.lookups.Lookups.forget.Goals as goal

pub returns : goal.returns
returns c =
    let are : AreKeptWhere true c.args.kept.now.settled c.args.self.now.fresh c.keep_where.new.self =
    subst (λ (marks : List Bool). AreKeptWhere true marks c.args.self.now.fresh c.keep_where.new.self) c.settled.ensures c.keep_where.ensures in
    record {
      orders = refl;
      flowing = refl;
      told = refl;
      tables = refl;
      bounds = refl;
      plans = refl;
      marks = refl;
      one_each = are.one_each;
      fewer = λ k lt h. fresh_kept c.args.kept.now c.args.self.now.fresh c.keep_where.new.self are k h;
    }

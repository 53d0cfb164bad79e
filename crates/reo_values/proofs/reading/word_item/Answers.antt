use Rattle.std.proofs.Common.{subst}
use Rattle.std.proofs.lemmas.Int.{to_z-of_z}
use Rattle.reo_values.specs.Valid.{IsValid}
use Rattle.reo_values.proofs.Again.{unit_none, bool_none, int_none, sym_none}
use Rattle.reo_values.proofs.Faults.{passed_on}
use Rattle.reo_values.proofs.reading.word_item.Goals as goal

pub returns-in_err-read_unit-in-Unit-clause-none : goal.returns-in_err-read_unit-in-Unit-clause-none
returns-in_err-read_unit-in-Unit-clause-none c failed item h e =
    let fault = passed_on c.from_residual.result c.in_err-read_unit-in-Unit.field-0.0 _ c.from_residual.ensures failed in
    unit_none c.args.kindred.now item c.args.word.now h e c.in-Unit.is (c.in_err-read_unit-in-Unit.ensures.none fault)

pub returns-in_err-read_truth-in-Bool-clause-none : goal.returns-in_err-read_truth-in-Bool-clause-none
returns-in_err-read_truth-in-Bool-clause-none c failed item h e =
    let fault = passed_on c.from_residual-in_err-read_truth-in-Bool.result c.in_err-read_truth-in-Bool.field-0.0 _ c.from_residual-in_err-read_truth-in-Bool.ensures failed in
    bool_none c.args.kindred.now item c.args.word.now h e c.in-Bool.is (c.in_err-read_truth-in-Bool.ensures.none fault)

pub returns-in_err-read_number-in-Int-clause-none : goal.returns-in_err-read_number-in-Int-clause-none
returns-in_err-read_number-in-Int-clause-none c failed item h e =
    let fault = passed_on c.from_residual-in_err-read_number-in-Int.result c.in_err-read_number-in-Int.field-0.0 _ c.from_residual-in_err-read_number-in-Int.ensures failed in
    let valid = subst IsValid c.in-Int.is c.requires.valid in
    let low = valid.0 in
    let high = valid.1 in
    int_none c.args.kindred.now item c.args.word.now h e c.in-Int.low c.in-Int.high c.in-Int.is (simp to_z-of_z at (c.in_err-read_number-in-Int.ensures.none fault))

pub returns-in_err-read_name-in-Sym-clause-none : goal.returns-in_err-read_name-in-Sym-clause-none
returns-in_err-read_name-in-Sym-clause-none c failed item h e =
    let fault = passed_on c.from_residual-in_err-read_name-in-Sym.result c.in_err-read_name-in-Sym.field-0.0 _ c.from_residual-in_err-read_name-in-Sym.ensures failed in
    sym_none c.args.kindred.now item c.args.word.now h e c.in-Sym.names c.in-Sym.is (rw (c.as_slice.ensures, c.get.ensures) at (c.in_err-read_name-in-Sym.ensures.none fault))

use Rattle.serde_json.specs.View.{view}
use Rattle.json_fields.specs.Filter.{formula_of}
use Rattle.json_fields.proofs.FormulaLemmas.{none_left, fault_reads}
use Rattle.json_fields.proofs.filter_reading.read_filter.Goals as goal

pub returns-then-is_none : goal.returns-then-is_none
returns-then-is_none c =
    none_left (formula_of (view c.args.value.now)) c.atoms_left.result c.atoms_left.ensures c.if-is_none.ensures

pub returns-in-Err : goal.returns-in-Err
returns-in-Err c =
    fault_reads (formula_of (view c.args.value.now)) c.atoms_left.result c.in-Err.fault c.atoms_left.ensures
    c.if-is_none.ensures c.in-Err.ensures.fault

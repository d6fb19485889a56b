use Rattle.std.proofs.Common.{ℕ, List, option_map, sym, ◌∙◌, Bor}
use Rattle.session_check.proofs.CheckLemmas.{text_there, memory_there, line_told, no_line_told}
use Rattle.session_check.proofs.checking.line_of_fault.Goals as goal

pub line_in-requires : goal.line_in-requires
line_in-requires c =
    text_there _ c.args.text.now c.args.fault c.in-Some.offset (sym c.offset_of.ensures ∙ c.in-Some.is) c.requires

pub returns-in-Ok-clause-line : goal.returns-in-Ok-clause-line
returns-in-Ok-clause-line c =
    line_told (option_map (λ (bytes : Bor (List ℕ)). bytes.now) c.args.given) c.args.text.now c.args.fault
    c.in-Some.offset c.in-Ok.line (sym c.offset_of.ensures ∙ c.in-Some.is) c.in-Ok.ensures

pub returns-in-Err-clause-memory : goal.returns-in-Err-clause-memory
returns-in-Err-clause-memory c =
    memory_there _ c.args.text.now c.args.fault c.in-Some.offset (sym c.offset_of.ensures ∙ c.in-Some.is) c.requires

pub returns-in-None-clause-line : goal.returns-in-None-clause-line
returns-in-None-clause-line c =
    no_line_told (option_map (λ (bytes : Bor (List ℕ)). bytes.now) c.args.given) c.args.text.now c.args.fault
    (sym c.offset_of.ensures ∙ c.in-None.is)

use Rattle.std.proofs.Common.{sym}
use Rattle.json_fields.proofs.UserLemmas.{role_found, other_role, no_role_found}
use Rattle.json_fields.proofs.user.role_named.Goals as goal

pub returns-in-Some : goal.returns-in-Some
returns-in-Some c =
    role_found c.args.edition c.args.word.now c.in-Some.role c.in-Some.ensures.found (sym c.if-is_of.ensures)

pub returns-in_default : goal.returns-in_default
returns-in_default c =
    other_role c.args.edition c.args.word.now c.in-Some.role c.in-Some.ensures.found (sym c.if-is_of.ensures)

pub returns-in_default-2 : goal.returns-in_default-2
returns-in_default-2 c = no_role_found c.args.edition c.args.word.now c.in_default.ensures.none

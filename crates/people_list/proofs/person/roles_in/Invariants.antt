use Rattle.std.specs.Str.Iter.{split_whitespace_rest}
use Rattle.people_list.specs.Roles.{BeginsWithRoles}
use Rattle.people_list.proofs.person.roles_in.Given as goal

abbrev pub invariant-loop-word : goal.invariant-loop-word
invariant-loop-word l = BeginsWithRoles l.text l.roles.items (split_whitespace_rest l.word-iterator)

use Rattle.std.proofs.Common.{◌≡◌, List, ℕ, true, sym, subst, rules}
use Rattle.std.specs.Result.{is_ok}
use Rattle.std.specs.Str.Iter.{split_whitespace_rest}
use Rattle.people_list.specs.Roles.{BeginsWithWord}
use Rattle.people_list.proofs.RolesLemmas.{one_name_more, all_named}
use Rattle.people_list.proofs.person.roles_in.Goals as goal

pub loop-word-preserved : goal.loop-word-preserved
loop-word-preserved c =
    let step = rw c.in-Some.is at c.next.ensures.steps in
    let good : is_ok c.push.result ≡ true = search rules in
    let items = rw good at c.push.ensures.items in
    let left = split_whitespace_rest c.loop-word.word-iterator in
    let rest = split_whitespace_rest c.next.new.self in
    let begins : BeginsWithWord left c.in-Some.word.now rest = record {
      gap = step.0;
      is = step.1;
      blank = step.3;
      some = step.2;
      whole = step.4;
      behind = step.5.0;
      ends = step.5.1;
    } in
    rw (items)
    (one_name_more c.args.text.now c.loop-word.roles.items left c.in-Some-from_name.role rest c.loop-word.invariant
    (subst (λ (word : List ℕ). BeginsWithWord left word rest) (sym c.in-Some-from_name.ensures.found) begins))

pub returns : goal.returns
returns c =
    all_named c.args.text.now c.loop-word.roles.items (split_whitespace_rest c.loop-word.word-iterator) c.loop-word.invariant
    c.in-None.ensures.steps.1

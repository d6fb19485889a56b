-- What is read by each form of the table of commands is what it is.
use Rattle.std.proofs.Common.{
  ◌≡◌,
  ℕ,
  List,
  [],
  ◌∷◌,
  true,
  false,
  not,
  ◌||◌,
  codes,
  Option,
  Some,
  None,
  option_and_then,
  refl,
  rules,
  ap,
  ◌∙◌,
}
use Rattle.serde_json.specs.Data.{Data, Items, no_items, item}
use Rattle.session_commands.specs.declared.command.Command.{Command}
use Rattle.session_roles.specs.declared.edition.Edition.{Edition}
use Rattle.session_roles.specs.declared.edition.Edition.TheVariants.{First, Second}
use Rattle.json_fields.specs.Form.{words, HasFormOf, AreEach}
use Rattle.json_fields.specs.Field.{text, text_at}
use Rattle.command_object.specs.Command.{added_commands, commands, role_called, command_called, command_of, is_other_word, is_unknown, has_unknown, IsCommand}
use Rattle.json_fields.proofs.FormLemmas.{Agrees, form_agrees, with_agrees, numbered_agrees, called_agrees}
use Rattle.json_fields.proofs.TableLemmas.{AllAgree, are_apart, is_word, by_word_read, by_word_reads}
use Rattle.json_fields.proofs.UserLemmas.{new_shown_agrees, pair_agrees, place_agrees, digest_agrees, role_read, role_reads}
use Rattle.command_object.proofs.MemberLemmas.{outcome_agrees, play_agrees}

-- ---- what each form of the table says is what it is

role_called_agrees : (edition : Edition) (name : List ℕ) → Agrees (role_called edition name)
role_called_agrees edition name = record {
  read = λ o role h. role_read edition (text o) role h;
  reads = λ o role is. role_reads edition (text o) role is;
}

-- each kind of member that a command has
ruleset members_agree = (
  numbered_agrees,
  called_agrees,
  role_called_agrees,
  outcome_agrees,
  play_agrees,
  new_shown_agrees,
  pair_agrees,
  place_agrees,
  digest_agrees,
)

added_agree : (edition : Edition) → AllAgree (added_commands edition)
added_agree First = tt
added_agree Second = search (rules, form_agrees, with_agrees, members_agree) depth 100

pub commands_agree : (edition : Edition) → AllAgree (commands edition)
commands_agree edition = search (rules, form_agrees, with_agrees, added_agree, members_agree) depth 100

-- ---- a command by its word

apart : (edition : Edition) → are_apart (words (commands edition)) ≡ true
apart First = refl
apart Second = refl

module _ (edition : Edition) where
  command_at : (o : Option (List ℕ)) (d : Data) (command : Command)
      → option_and_then (λ word. command_called edition word d) o ≡ Some command
      → (word : List ℕ) × (o ≡ Some word) × HasFormOf (codes "cmd" ∷ []) (commands edition) word d command
  command_at None d command h = absurd (cc)
  command_at (Some word) d command h =
      (word, refl, by_word_read (codes "cmd" ∷ []) (commands edition) (commands_agree edition) word d command h)

  pub command_read : (d : Data) (command : Command) → command_of edition d ≡ Some command → IsCommand edition d command
  unfolding command_of
  command_read d command h = command_at (text_at (codes "cmd") d) d command h

  pub command_reads : (d : Data) (command : Command) → IsCommand edition d command → command_of edition d ≡ Some command
  unfolding command_of
  command_reads d command is =
      ap (option_and_then (λ word. command_called edition word d)) is.1
      ∙ by_word_reads (codes "cmd" ∷ []) (commands edition) (commands_agree edition) (apart edition) is.0 d command is.2

  known : (d : Data) (command : Command) → IsCommand edition d command → is_unknown edition d ≡ false
  unfolding is_unknown
  known d command is =
      ap (is_other_word edition) is.1
      ∙ ap not (is_word (codes "cmd" ∷ []) (commands edition) is.0 d command is.2)

  pub all_known : (ds : Items) (xs : List Command) → AreEach (IsCommand edition) ds xs → has_unknown edition ds ≡ false
  all_known no_items [] all = refl
  all_known no_items (x ∷ xs) all = absurd all
  all_known (item d ds) [] all = absurd all
  all_known (item d ds) (x ∷ xs) all =
      ap (λ b. b || has_unknown edition ds) (known d x all.0) ∙ all_known ds xs all.1

-- What is read as a client's command is no command of the solver's.
use Rattle.std.proofs.Common.{◌≡◌, ℕ, List, [], ◌∷◌, ◌++◌, Bool, true, false, cond, codes, Option, Some, None, option_and_then, subst, rules}
use Rattle.std.specs.Str.{bytes_eq}
use Rattle.serde_json.specs.Data.{Data}
use Rattle.session_commands.specs.declared.command.Command.{Command}
use Rattle.session_commands.specs.Command.{is_solvers}
use Rattle.session_roles.specs.declared.edition.Edition.TheVariants.{Second}
use Rattle.json_fields.specs.Form.{Form, applied, formed, by_word, has_only}
use Rattle.json_fields.specs.Field.{text_at}
use Rattle.command_object.specs.Command.{commands, command_called, command_of}

-- what is read, if something is, is so
abbrev IsEach : {A : Type 0} → (A → Type 0) → Option A → Type 0
IsEach Q None = Unit {0}
IsEach Q (Some x) = Q x

-- what a value that is applied makes
applied_is : {A B : Type 0} (Q : B → Type 0) (make : Option (A → B)) (o : Option A)
    → IsEach (λ (g : A → B). (a : A) → Q (g a)) make → IsEach Q (applied make o)
applied_is Q None o each = tt
applied_is Q (Some g) None each = tt
applied_is Q (Some g) (Some a) each = each a

-- all that a table's forms read
abbrev AllMake : {A : Type 0} → (A → Type 0) → List (Form A) → Type 0
AllMake Q [] = Unit {0}
AllMake Q (f ∷ fs) = ((d : Data) → IsEach Q (f.value d)) × AllMake Q fs

chosen : {A : Type 0} (Q : A → Type 0) (b : Bool) (one other : Option A) → IsEach Q one → IsEach Q other
    → IsEach Q (cond b one other)
chosen Q true one other is also = is
chosen Q false one other is also = also

made_by : {A : Type 0} (Q : A → Type 0) (others : List (List ℕ)) (fs : List (Form A)) → AllMake Q fs
    → (word : List ℕ) (d : Data) → IsEach Q (by_word others fs word d)
made_by Q others [] all word d = tt
made_by Q others (f ∷ fs) all word d =
    chosen Q (bytes_eq word f.word) (formed others f d) (by_word others fs word d)
    (chosen Q (has_only (others ++ f.names) d) (f.value d) None (all.0 d) tt) (made_by Q others fs all.1 word d)

abbrev IsUsers : Command → Type 0
IsUsers command = is_solvers command ≡ false

-- each command of the table, whatever its members are
users : AllMake IsUsers (commands Second)
users = search (rules, applied_is) depth 100

called_by : (o : Option (List ℕ)) (d : Data)
    → IsEach IsUsers (option_and_then (λ word. command_called Second word d) o)
called_by None d = tt
called_by (Some word) d = made_by IsUsers (codes "cmd" ∷ []) (commands Second) users word d

pub is_users : (d : Data) (command : Command) → command_of Second d ≡ Some command → is_solvers command ≡ false
unfolding command_of
is_users d command same = subst (IsEach IsUsers) same (called_by (text_at (codes "cmd") d) d)

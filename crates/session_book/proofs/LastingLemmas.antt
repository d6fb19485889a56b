-- What every entry leaves: the users stay at their places, and the movement is the same.
use Rattle.std.proofs.Common.{◌≡◌, ℕ, Bool, true, false, List, [], ◌∷◌, ◌++◌, map, refl, sym, ap, ◌∙◌, append_assoc}
use Rattle.std.specs.Prelude.{is_some, cond}
use Rattle.std.proofs.lemmas.List.{append-nil}
use Rattle.movement.specs.declared.cell.Cell.{Cell}
use Rattle.rbac.specs.Account.{new_account, with_change}
use Rattle.session_roles.specs.Role.{with_role, without_role}
use Rattle.rbac.specs.declared.account.Account.{Account}
use Rattle.session_roles.specs.declared.role.Role.{Role}
use Rattle.rbac.proofs.AccountLemmas.{name_kept}
use Rattle.session_state.specs.Apply.{apply, effect, confirmed}
use Rattle.session_state.specs.Refusal.{hindrance_of}
use Rattle.session_state.specs.SessionState.{SessionState, cell_at}
use Rattle.session_commands.specs.declared.cell_state.CellState.{CellState}
use Rattle.session_commands.specs.declared.cell_state.CellState.TheVariants.{Empty}
use Rattle.session_commands.specs.declared.command.Command.{Command}
use Rattle.session_commands.specs.declared.command.Command.TheVariants.{Confirm, AddUser, Assign, Deassign}
use Rattle.session_commands.specs.declared.entry.Entry.{Entry}
use Rattle.session_book.specs.Exposure.{users_of}
use Rattle.session_book.specs.Replay.{replay}

-- users may have joined, after those that there were, and the movement is the same
pub record Lasts (before after : SessionState) : Type 0 where
  pub joined : List (List ℕ)
  pub users : users_of after ≡ users_of before ++ joined
  pub movement : after.public.movement ≡ before.public.movement

-- nobody joined
abbrev nobody : (before after : SessionState) → users_of after ≡ users_of before → after.public.movement ≡
    before.public.movement → Lasts before after
nobody before after users movement = record {
  joined = [];
  users = users ∙ sym (append-nil (users_of before));
  movement = movement;
}

confirmed_lasts : (state : SessionState) (cell : Cell) (known : CellState) → Lasts state (confirmed state cell known)
confirmed_lasts state cell Empty = nobody state state refl refl
confirmed_lasts state cell known = nobody state _ refl refl

-- whatever roles are assigned, users keep their names
names_kept : (change : List Role → List Role) (name : List ℕ) (accounts : List Account) →
    map (λ (account : Account). account.name) (with_change change name accounts) ≡ map
    (λ (account : Account). account.name) accounts
names_kept change name [] = refl
names_kept change name (account ∷ accounts) = λ i. name_kept change name account i ∷ names_kept change name accounts i

-- a user who joins comes last
joined_last : (accounts : List Account) (account : Account) →
    map (λ (account : Account). account.name) (accounts ++ account ∷ []) ≡ map (λ (account : Account). account.name)
    accounts ++ account.name ∷ []
joined_last [] account = refl
joined_last (first ∷ accounts) account = ap (λ names. first.name ∷ names) (joined_last accounts account)

-- whatever a command does; accounts are those of three alone
effect_lasts : (state : SessionState) (command : Command) → Lasts state (effect state command)
effect_lasts state (Confirm cell outcome) = confirmed_lasts state cell (cell_at state cell)
effect_lasts state (AddUser name digest) =
    record { joined = name ∷ []; users = joined_last state.roles.accounts (new_account name); movement = refl }
effect_lasts state (Assign name role) =
    nobody state _ (names_kept (λ set. with_role set role) name state.roles.accounts) refl
effect_lasts state (Deassign name role) =
    nobody state _ (names_kept (λ set. without_role set role) name state.roles.accounts) refl
effect_lasts state command = nobody state _ refl refl

pub apply_lasts : (state : SessionState) (entry : Entry) → Lasts state (apply state entry)
apply_lasts state entry = by_hindrance (is_some (hindrance_of state entry.command))
  where
    by_hindrance : (b : Bool) → Lasts state (cond b state (effect state entry.command))
    by_hindrance true = nobody state state refl refl
    by_hindrance false = effect_lasts state entry.command

pub lasts_on : (a b c : SessionState) → Lasts a b → Lasts b c → Lasts a c
lasts_on a b c first then = record {
  joined = first.joined ++ then.joined;
  users = then.users ∙ (ap (λ users. users ++ then.joined) first.users ∙ append_assoc (users_of a) first.joined
      then.joined);
  movement = then.movement ∙ first.movement;
}

-- so does every journal
pub replay_lasts : (state : SessionState) (journal : List Entry) → Lasts state (replay state journal)
unfolding replay
replay_lasts state [] = nobody state state refl refl
replay_lasts state (entry ∷ entries) = lasts_on state (apply state entry) (replay (apply state entry) entries)
    (apply_lasts state entry) (replay_lasts (apply state entry) entries)

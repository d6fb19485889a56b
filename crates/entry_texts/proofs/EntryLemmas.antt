-- The texts of an entry tell it.
use Rattle.std.proofs.Common.{◌≡◌, ℕ, List, ◌++◌, get_or, codes, refl, sym, ap, ◌∙◌, arith}
use Rattle.std.proofs.lemmas.Option.{same_Some}
use Rattle.serde_json.specs.Read.{read}
use Rattle.session_commands.specs.declared.actor.Actor.{Actor}
use Rattle.session_commands.specs.declared.actor.Actor.TheVariants.{User, Solver}
use Rattle.session_commands.specs.declared.entry.Entry.{Entry}
use Rattle.command_writing.specs.CommandData.{command_data}
use Rattle.command_writing.proofs.TellingLemmas.{tells}
use Rattle.entry_texts.specs.EntryTexts.{actor_text, texts_of_entry, IsKeepable}

same_name : (one other : List ℕ) → codes "user " ++ one ≡ codes "user " ++ other → one ≡ other
same_name one other same = cc (same)

other_actor : (name : List ℕ) → codes "user " ++ name ≡ codes "solver" → ⊥
other_actor name same = let letters : 117 ≡ 115 = ap (λ text. get_or text 0 0) same in omega (arith, letters)

pub actor_tells : (one other : Actor) → actor_text one ≡ actor_text other → one ≡ other
actor_tells (User one) (User other) same = ap User (same_name one other same)
actor_tells (User name) Solver same = absurd (other_actor name same)
actor_tells Solver (User name) same = absurd (other_actor name (sym same))
actor_tells Solver Solver same = refl

pub entry_tells : (one other : Entry) → IsKeepable one → IsKeepable other → texts_of_entry one ≡ texts_of_entry other
    → one ≡ other
entry_tells one other is also same =
    let actors = actor_tells one.actor other.actor (ap (λ texts. texts.actor) same) in
    let datas = same_Some (command_data one.command) (command_data other.command)
    (sym is.json ∙ ap (λ texts. read texts.command) same ∙ also.json) in
    let commands = tells one.command other.command is.command also.command datas in
    λ i. record { actor = actors i; command = commands i }

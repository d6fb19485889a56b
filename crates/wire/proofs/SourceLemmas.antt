-- Whose a message is, is read as it is.
use Rattle.std.proofs.Common.{◌≡◌, List, ℕ, Option, Some, None, option_map, IsSome, refl, sym, ap, ◌∙◌}
use Rattle.serde_json.specs.Data.{Data}
use Rattle.json_fields.proofs.FormLemmas.{Agrees}
use Rattle.json_fields.specs.Message.{user}
use Rattle.json_fields.proofs.MemberLemmas.{user_agrees}
use Rattle.wire.specs.Source.{said_in, IsSaidIn, said_user}
use Rattle.wire.specs.declared.source.Source.{Source}
use Rattle.wire.specs.declared.source.Source.TheVariants.{Script, Connection}

some_of : {A : Type 0} (o said : Option A) → option_map Some o ≡ Some said → (x : A) × (o ≡ Some x) × (said ≡ Some x)
some_of None said h = absurd (cc)
some_of (Some x) said h = (x, refl, cc)

said_read : (source : Source) (o : Option Data) (said : Option (List ℕ)) → said_in source o ≡ Some said →
    IsSaidIn source o said
said_read Script o None h = let parts = some_of (user.value o) None h in let none = parts.2 in absurd (cc)
said_read Script o (Some name) h =
    let parts = some_of (user.value o) (Some name) h in user_agrees.read o name (parts.1 ∙ sym parts.2)
said_read Connection None said h = (refl, cc)
said_read Connection (Some d) said h = absurd (cc)

said_reads : (source : Source) (o : Option Data) (said : Option (List ℕ)) → IsSaidIn source o said →
    said_in source o ≡ Some said
said_reads Script o None is = absurd is
said_reads Script o (Some name) is = ap (option_map Some) (user_agrees.reads o name is)
said_reads Connection None said is = ap Some (sym is.1)
said_reads Connection (Some d) said is = let none = is.0 in absurd (cc)

pub said_agrees : (source : Source) → Agrees (said_user source)
said_agrees source = record { read = said_read source; reads = said_reads source }

-- ---- where a user is said

pub said_in_script : (o : Option Data) (said : Option (List ℕ)) → IsSaidIn Script o said → IsSome said
said_in_script o None is = absurd is
said_in_script o (Some name) is = refl

pub unsaid_on_connection : (o : Option Data) (said : Option (List ℕ)) → IsSaidIn Connection o said → said ≡ None
unsaid_on_connection o said is = is.1

-- What is read of the members that many messages have is what it is, and the other way round.
use Rattle.std.proofs.Common.{◌≡◌, ℕ, Option, Some, None, sym, ap}
use Rattle.serde_json.specs.Data.{Data}
use Rattle.json_fields.specs.Field.{text}
use Rattle.json_fields.proofs.FormLemmas.{Agrees, name_read, name_reads}
use Rattle.json_fields.specs.Message.{user, whole_or_zero, IsSince, since}

pub user_agrees : Agrees user
user_agrees = record {
  read = λ o name h. let both = name_read (text o) name h in record { is = both.0; short = both.1 };
  reads = λ o name is. name_reads (text o) name is.is is.short;
}

since_read : (o : Option Data) (n : ℕ) → whole_or_zero o ≡ Some n → IsSince o n
since_read None n h = cc
since_read (Some d) n h = h

since_reads : (o : Option Data) (n : ℕ) → IsSince o n → whole_or_zero o ≡ Some n
since_reads None n h = ap Some (sym h)
since_reads (Some d) n h = h

pub since_agrees : Agrees since
since_agrees = record { read = since_read; reads = since_reads }

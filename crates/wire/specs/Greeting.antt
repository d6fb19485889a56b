-- The message by which a connection's user signs in: the name and a token, and no other member.
use Rattle.std.specs.Prelude.{ℕ, List, [], codes, None}
use Rattle.wire.specs.declared.request.Request.{Request}
use Rattle.wire.specs.declared.request.RequestBody.TheVariants as body
use Rattle.json_fields.specs.Form.{Member, Form, form, ◌with◌}
use Rattle.json_fields.specs.Field.{called, written}

-- who greets
abbrev pub greeter : Member (List ℕ)
greeter = called (codes "hello")

-- the token: any text
abbrev pub token : Member (List ℕ)
token = written (codes "token")

-- the greeting of a name and a token; nobody has signed in before it
abbrev pub a_greeting : List ℕ → List ℕ → Request
a_greeting name token = record { user = None; body = body.Hello name token }

-- a greeting; an object with no word
abbrev pub greeting : Form Request
greeting = form [] a_greeting with greeter with token

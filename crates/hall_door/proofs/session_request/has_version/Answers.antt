use Rattle.std.proofs.Common.{rules, ◌≡◌, Some, None, codes, sym}
use Rattle.hall_door.specs.SessionRequest.{first_value}
use Rattle.hall_door.proofs.FieldLemmas.{none_has, some_has}
use Rattle.hall_door.proofs.session_request.has_version.Goals as goal

-- src/session_request.rt:84:1
pub returns-in-Some : goal.returns-in-Some
returns-in-Some c =
    let is : first_value c.args.request.now (codes "sec-websocket-version") ≡ Some c.in-Some.value.now =
    rw (sym c.headers.ensures) (sym c.in-Some.ensures.value) in
    some_has _ c.in-Some.value.now _ (λ bytes. bytes ≡ codes "13") is (search rules)

-- src/session_request.rt:84:1
pub returns-in-None : goal.returns-in-None
returns-in-None c =
    let is : first_value c.args.request.now (codes "sec-websocket-version") ≡ None =
    rw (sym c.headers.ensures) (sym c.in-None.ensures.value) in
    none_has _ _ is

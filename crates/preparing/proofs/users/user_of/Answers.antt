use Rattle.std.proofs.Common.{refl, ap, ◌∙◌, List, ℕ, length}
use Rattle.std.specs.Prelude.{string_bytes}
use Rattle.sha2.proofs.Facts256.{length-sha256}
use Rattle.preparing.proofs.WritableLemmas.{has_roles, shown_or_none}
use Rattle.preparing.proofs.users.user_of.Goals as goal

pub returns : goal.returns
returns c =
    let guest = c.args.guest.now in
    record {
      name = refl;
      is = λ name. record {
        name = name;
        digest = c.digest-digest.ensures;
        roles = c.in_ok-roles.ensures;
        seat = refl;
        shown = refl;
        number = c.number_of.ensures.same;
      };
      writable = λ seat. record {
        name = rw c.as_str-name.ensures.text at c.as_str-name.ensures.short;
        size = ap (λ (bytes : List ℕ). length bytes) c.digest-digest.ensures ∙ length-sha256 (string_bytes guest.token.now.text);
        bytes = c.are_bytes.ensures;
        roles = has_roles c.in_ok-roles.roles;
        pair = seat;
        shown = shown_or_none _ (rw c.as_str-shown.ensures.text at c.as_str-shown.ensures.shown);
        number = c.number_of.ensures.number;
      };
    }

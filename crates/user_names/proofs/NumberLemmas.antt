-- A member's number is short.
use Rattle.std.proofs.Common.{◌≡◌, ◌≤◌, ℕ, Bool, true, false, List, ◌&&◌, length, nat_le, refl, arith}
use Rattle.std.specs.Char.{is_ascii_alphanumeric}
use Rattle.std.specs.List.{list_all}
use Rattle.user_names.specs.MemberNumber.{is_member_number}
use Rattle.user_names.specs.declared.member_number.TheConstants.MemberNumber.{MOST}

most_is : (m n : ℕ) → nat_le m n ≡ true → m ≤ n
most_is m n h = grind arith

between : (a b c : Bool) → (a && (b && c)) ≡ true → b ≡ true
between true true c h = refl
between true false c h = absurd (cc)
between false b c h = absurd (cc)

-- its length is that of its places at most
pub short_number : (text : List ℕ) → is_member_number text ≡ true → length text ≤ MOST
unfolding is_member_number
short_number text h =
    let short : nat_le (length text) MOST ≡ true =
    between (nat_le 1 (length text)) (nat_le (length text) MOST) (list_all is_ascii_alphanumeric text) h in
    most_is (length text) MOST short

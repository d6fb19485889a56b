-- Where accounts stand, and the digest of a user and the names to show, place by place.
use Rattle.std.proofs.Common.{◌≡◌, ℕ, zero, suc, ◌+◌, ◌<◌, ◌≤◌, cond, List, [], ◌∷◌, ◌++◌, length, drop, get_or, refl, ap, arith}
use Rattle.std.specs.Prelude.{Some, None, slice_set}
use Rattle.rbac.specs.Account.{same_name}
use Rattle.rbac.specs.declared.account.Account.{Account}
use Rattle.user_names.specs.declared.digest.Digest.{Digest}
use Rattle.session_state.specs.Readers.{account_place, digest_among, shown_of, shown_among}

-- where an account stands, from a place on: there, or after it
pub place_from : (accounts : List Account) (place : ℕ) (name : List ℕ) (a : Account) → place < length accounts →
    account_place (drop place accounts) name
    ≡ cond (same_name (get_or accounts place a).name name) 0 (account_place (drop (suc place) accounts) name + 1)
place_from [] place name a below = absurd (omega arith)
place_from (account ∷ accounts) zero name a below = refl
place_from (account ∷ accounts) (suc place) name a below = place_from accounts place name a (omega arith)

-- past the last place there is none
pub place_past : (accounts : List Account) (place : ℕ) (name : List ℕ) → length accounts ≤ place →
    account_place (drop place accounts) name ≡ 0
place_past [] zero name past = refl
place_past [] (suc place) name past = refl
place_past (account ∷ accounts) zero name past = absurd (omega arith)
place_past (account ∷ accounts) (suc place) name past = place_past accounts place name (omega arith)

-- what is put past the last place is nowhere
pub put_past : {A : Type 0} (xs : List A) (place : ℕ) (x : A) → length xs ≤ place → slice_set xs place x ≡ xs
put_past [] place x past = refl
put_past (first ∷ xs) zero x past = absurd (omega arith)
put_past (first ∷ xs) (suc place) x past = ap (λ rest. first ∷ rest) (put_past xs place x (omega arith))

-- the digest from a place on: the one there, or one after it
pub digest_from : (accounts : List Account) (digests : List Digest) (place : ℕ) (name : List ℕ) (a : Account)
    (d : Digest) → place < length accounts → place < length digests →
    digest_among (drop place accounts) (drop place digests) name
    ≡ cond (same_name (get_or accounts place a).name name) (Some (get_or digests place d))
    (digest_among (drop (suc place) accounts) (drop (suc place) digests) name)
digest_from [] digests place name a d below below_digests = absurd (omega arith)
digest_from (account ∷ accounts) [] place name a d below below_digests = absurd (omega arith)
digest_from (account ∷ accounts) (digest ∷ digests) zero name a d below below_digests = refl
digest_from (account ∷ accounts) (digest ∷ digests) (suc place) name a d below below_digests = digest_from accounts
    digests place name a d (omega arith) (omega arith)

-- past the last place there is none
pub digest_past : (accounts : List Account) (digests : List Digest) (place : ℕ) (name : List ℕ) →
    length accounts ≤ place → digest_among (drop place accounts) (drop place digests) name ≡ None
digest_past [] digests place name past = none place
  where
    none : (place : ℕ) → digest_among (drop place []) (drop place digests) name ≡ None
    none zero = refl
    none (suc place) = refl
digest_past (account ∷ accounts) digests zero name past = absurd (omega arith)
digest_past (account ∷ accounts) [] (suc place) name past = nothing accounts place
  where
    nothing : (accounts : List Account) (place : ℕ) → digest_among (drop place accounts) [] name ≡ None
    nothing [] zero = refl
    nothing [] (suc place) = refl
    nothing (account ∷ accounts) zero = refl
    nothing (account ∷ accounts) (suc place) = nothing accounts place
digest_past (account ∷ accounts) (digest ∷ digests) (suc place) name past = digest_past accounts digests place name
    (omega arith)

-- the names to show from a place on: the one there, if it is one, and those after it
pub shown_from : (accounts : List Account) (names : List (List ℕ)) (place : ℕ) (a : Account) (n : List ℕ) →
    place < length accounts → place < length names →
    shown_among (drop place accounts) (drop place names)
    ≡ shown_of (record { name = (get_or accounts place a).name; shown = get_or names place n })
    ++ shown_among (drop (suc place) accounts) (drop (suc place) names)
shown_from [] names place a n below below_names = absurd (omega arith)
shown_from (account ∷ accounts) [] place a n below below_names = absurd (omega arith)
shown_from (account ∷ accounts) (name ∷ names) zero a n below below_names = refl
shown_from (account ∷ accounts) (name ∷ names) (suc place) a n below below_names =
    shown_from accounts names place a n (omega arith) (omega arith)

-- past the last place there is none
pub shown_past : (accounts : List Account) (names : List (List ℕ)) (place : ℕ) → length accounts ≤ place →
    length names ≤ place → shown_among (drop place accounts) (drop place names) ≡ []
shown_past [] names zero past past_names = refl
shown_past [] names (suc place) past past_names = refl
shown_past (account ∷ accounts) names zero past past_names = absurd (omega arith)
shown_past (account ∷ accounts) [] (suc place) past past_names = nothing (drop place accounts)
  where
    nothing : (accounts : List Account) → shown_among accounts [] ≡ []
    nothing [] = refl
    nothing (account ∷ accounts) = refl
shown_past (account ∷ accounts) (name ∷ names) (suc place) past past_names =
    shown_past accounts names place (omega arith) (omega arith)

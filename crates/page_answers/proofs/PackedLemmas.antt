-- The names of compressed forms.
use Rattle.std.proofs.Common.{◌≡◌, ◌≢◌, ℕ, false, List, ◌++◌, bytes_eq, ap}
use Rattle.std.specs.Bool.{one_answer}
use Rattle.std.proofs.lemmas.Bool.{false_from_ne_true}
use Rattle.std.proofs.lemmas.List.{append_cancel_right}
use Rattle.std.proofs.lemmas.Slice.Eq.{bytes_eq-Decides}

-- what two names begin with is the same where they are, if they have the same ending
pub same_front : (front name ending : List ℕ) → bytes_eq front name ≡ bytes_eq (front ++ ending) (name ++ ending)
same_front front name ending =
    let whole = bytes_eq-Decides (front ++ ending) (name ++ ending) in
    one_answer (bytes_eq front name) (bytes_eq (front ++ ending) (name ++ ending)) (bytes_eq-Decides front name)
    ((λ same. append_cancel_right front name ending (whole.0 same)), (λ same. whole.1 (ap (λ begin. begin ++ ending) same)))

-- what doesn't end so is no name with that ending
pub no_front : (packed name ending : List ℕ) → ((front : List ℕ) → packed ≢ front ++ ending)
    → bytes_eq packed (name ++ ending) ≡ false
no_front packed name ending none =
    false_from_ne_true (bytes_eq packed (name ++ ending))
    (λ same. none name ((bytes_eq-Decides packed (name ++ ending)).0 same))

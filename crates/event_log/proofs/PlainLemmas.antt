-- Names as a log has them.
use Rattle.std.proofs.Common.{◌≡◌, ℕ, ◌+◌, ◌<◌, ◌≤◌, ◌⊎◌, inl, inr, true, false, List, length, map, subst, sym, arith}
use Rattle.std.specs.Prelude.{◌&&◌, nat_le, slice_index_or}
use Rattle.std.proofs.lemmas.Grind.{common_steps}
use Rattle.std.proofs.lemmas.List.{length-map, get_or-map}
use Rattle.event_log.specs.Plain.{plain_byte, plain}

-- a byte of a name is printed
pub plain_in : (byte : ℕ) → (33 ≤ plain_byte byte) × (plain_byte byte ≤ 126)
plain_in byte = grind (arith, common_steps)

pub plain_at : (name : List ℕ) (k d : ℕ) → k < length (plain name)
    → (33 ≤ slice_index_or (plain name) k d) × (slice_index_or (plain name) k d ≤ 126)
unfolding plain
plain_at name k d below =
    let short : k < length name = subst (λ n. k < n) (length-map name plain_byte) below in
    let is : slice_index_or (map plain_byte name) k d ≡ plain_byte (slice_index_or name k 0) =
    get_or-map plain_byte name k 0 d short in
    subst (λ b. (33 ≤ b) × (b ≤ 126)) (sym is) (plain_in (slice_index_or name k 0))

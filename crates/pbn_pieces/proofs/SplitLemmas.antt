-- A text is split where the first byte that fails the test stands.
use Rattle.std.proofs.Common.{
  ◌≡◌,
  ◌≢◌,
  ℕ,
  suc,
  zero,
  ◌+◌,
  ◌-◌,
  ◌<◌,
  ◌≤◌,
  Bool,
  true,
  false,
  List,
  [],
  ◌∷◌,
  ◌++◌,
  take,
  drop,
  get_or,
  length,
  refl,
  sym,
  ap,
  ◌∙◌,
  arith,
  length-drop,
}
use Rattle.std.proofs.Math.Seq.{drop-cons}
use Rattle.std.proofs.lemmas.List.{take_more, take_all}
use Rattle.std.specs.Prelude.{if◌then◌else◌, Option, Some, None}
use Rattle.pbn_pieces.specs.Cutting.{split, in_front, closing}
use Rattle.pbn_pieces.specs.Pieces.{is_escape}

pub split_at : (test : ℕ → Bool) (bytes : List ℕ) (i : ℕ) → i < length bytes →
    ((k : ℕ) → k < i → test (get_or bytes k 0) ≡ true) → test (get_or bytes i 0) ≡ false →
    (take i bytes, drop i bytes) ≡ split test bytes
split_at test [] i within passes stops = absurd (omega (arith, within))
split_at test (byte ∷ bytes) zero within passes stops = rw stops refl
split_at test (byte ∷ bytes) (suc i) within passes stops =
    let rest = split_at test bytes i (omega (arith, within)) (λ k h. passes (suc k) (omega (arith, h))) stops in
    ap (λ (s : List ℕ × List ℕ). (byte ∷ s.0, s.1)) rest
    ∙ ap (λ (b : Bool). if b then (byte ∷ (split test bytes).0, (split test bytes).1) else ([], byte ∷ bytes))
    (sym (passes zero (omega arith)))

pub split_all : (test : ℕ → Bool) (bytes : List ℕ) → ((k : ℕ) → k < length bytes → test (get_or bytes k 0) ≡ true) →
    (bytes, []) ≡ split test bytes
split_all test [] passes = refl
split_all test (byte ∷ bytes) passes =
    ap (λ (s : List ℕ × List ℕ). (byte ∷ s.0, s.1)) (split_all test bytes (λ k h. passes (suc k) (omega (arith, h))))
    ∙ ap (λ (b : Bool). if b then (byte ∷ (split test bytes).0, (split test bytes).1) else ([], byte ∷ bytes))
    (sym (passes zero (omega arith)))

-- bytes before what was found
abbrev pub all_in_front : List ℕ → Option (List ℕ × List ℕ) → Option (List ℕ × List ℕ)
all_in_front [] found = found
all_in_front (byte ∷ bytes) found = in_front byte (all_in_front bytes found)

all_in_front_none : (bytes : List ℕ) → all_in_front bytes None ≡ None
all_in_front_none [] = refl
all_in_front_none (byte ∷ bytes) = ap (in_front byte) (all_in_front_none bytes)

all_in_front_some : (bytes rest : List ℕ) → all_in_front bytes (Some ([], rest)) ≡ Some (bytes, rest)
all_in_front_some [] rest = refl
all_in_front_some (byte ∷ bytes) rest = ap (in_front byte) (all_in_front_some bytes rest)

all_in_front_more : (bytes more : List ℕ) (found : Option (List ℕ × List ℕ)) → all_in_front (bytes ++ more) found ≡
    all_in_front bytes (all_in_front more found)
all_in_front_more [] more found = refl
all_in_front_more (byte ∷ bytes) more found = ap (in_front byte) (all_in_front_more bytes more found)

pub closing_quote : (bytes : List ℕ) → closing (34 ∷ bytes) ≡ Some ([], bytes)
closing_quote [] = refl
closing_quote (next ∷ bytes) = refl

pub closing_feed : (bytes : List ℕ) → closing (10 ∷ bytes) ≡ None
closing_feed [] = refl
closing_feed (next ∷ bytes) = refl

pub closing_escape : (byte next : ℕ) (bytes : List ℕ) → is_escape byte next ≡ true → closing (byte ∷ next ∷ bytes) ≡
    in_front byte (in_front next (closing bytes))
closing_escape byte next bytes is = grind (arith, is)

pub closing_letter : (byte : ℕ) (bytes : List ℕ) → byte ≢ 34 → byte ≢ 10 →
    (0 < length bytes → is_escape byte (get_or bytes 0 0) ≡ false) → closing (byte ∷ bytes) ≡ in_front byte
    (closing bytes)
closing_letter byte [] quote feed plain = grind (arith, quote, feed)
closing_letter byte (next ∷ bytes) quote feed plain = grind (arith, quote, feed, plain (omega arith))

drop_all : (at : ℕ) (bytes : List ℕ) → length bytes ≤ at → drop at bytes ≡ []
drop_all zero [] end = refl
drop_all zero (byte ∷ bytes) end = absurd (omega (arith, end))
drop_all (suc at) [] end = refl
drop_all (suc at) (byte ∷ bytes) end = drop_all at bytes (omega (arith, end))

drop_at : (at : ℕ) (bytes : List ℕ) → at < length bytes → drop at bytes ≡ get_or bytes at 0 ∷ drop (at + 1) bytes
drop_at at bytes within =
    let e : suc at ≡ at + 1 = omega arith in
    drop-cons bytes at 0 within ∙ ap (λ n. get_or bytes at 0 ∷ drop n bytes) e

-- where the walk through what stands within quotes has come
pub record Walks (bytes : List ℕ) (at : ℕ) : Type 0 where
  pub within : at ≤ length bytes
  pub same : all_in_front (take at bytes) (closing (drop at bytes)) ≡ closing bytes

pub walk_ends : (bytes : List ℕ) (at : ℕ) → Walks bytes at → length bytes ≤ at → closing bytes ≡ None
walk_ends bytes at walks end =
    sym walks.same ∙ ap (λ rest. all_in_front (take at bytes) (closing rest)) (drop_all at bytes end)
    ∙ all_in_front_none (take at bytes)

pub walk_closes : (bytes : List ℕ) (at : ℕ) → Walks bytes at → at < length bytes → get_or bytes at 0 ≡ 34 →
    closing bytes ≡ Some (take at bytes, drop (at + 1) bytes)
walk_closes bytes at walks within quote =
    sym walks.same ∙ ap (λ rest. all_in_front (take at bytes) (closing rest))
    (drop_at at bytes within ∙ ap (λ b. b ∷ drop (at + 1) bytes) quote)
    ∙ ap (all_in_front (take at bytes)) (closing_quote (drop (at + 1) bytes)) ∙ all_in_front_some (take at bytes)
    (drop (at + 1) bytes)

pub walk_feeds : (bytes : List ℕ) (at : ℕ) → Walks bytes at → at < length bytes → get_or bytes at 0 ≡ 10 →
    closing bytes ≡ None
walk_feeds bytes at walks within feed =
    sym walks.same ∙ ap (λ rest. all_in_front (take at bytes) (closing rest))
    (drop_at at bytes within ∙ ap (λ b. b ∷ drop (at + 1) bytes) feed)
    ∙ ap (all_in_front (take at bytes)) (closing_feed (drop (at + 1) bytes)) ∙ all_in_front_none (take at bytes)

-- one byte more
walk_on : (bytes : List ℕ) (at : ℕ) (found : Option (List ℕ × List ℕ)) → at < length bytes →
    all_in_front (take (at + 1) bytes) found ≡ all_in_front (take at bytes) (in_front (get_or bytes at 0) found)
walk_on bytes at found within =
    ap (λ front. all_in_front front found) (take_more bytes at 0 within) ∙ all_in_front_more (take at bytes)
    (get_or bytes at 0 ∷ []) found

pub walk_letter : (bytes : List ℕ) (at : ℕ) → Walks bytes at → at < length bytes → get_or bytes at 0 ≢ 34 →
    get_or bytes at 0 ≢ 10 →
    (at + 1 < length bytes → is_escape (get_or bytes at 0) (get_or bytes (at + 1) 0) ≡ false) → Walks bytes (at + 1)
walk_letter bytes at walks within quote feed plain = record {
  within = omega (arith, within);
  same =
      walk_on bytes at (closing (drop (at + 1) bytes)) within
      ∙ ap (all_in_front (take at bytes))
      (sym (closing_letter (get_or bytes at 0) (drop (at + 1) bytes) quote feed after))
      ∙ ap (λ rest. all_in_front (take at bytes) (closing rest)) (sym (drop_at at bytes within))
      ∙ walks.same;
}
  where
    after : 0 < length (drop (at + 1) bytes) → is_escape (get_or bytes at 0) (get_or (drop (at + 1) bytes) 0 0) ≡ false
    after more =
        let inside : at + 1 < length bytes = grind (arith, more, length-drop (at + 1) bytes) in
        ap (λ rest. is_escape (get_or bytes at 0) (get_or rest 0 0)) (drop_at (at + 1) bytes inside) ∙ plain inside

pub walk_escape : (bytes : List ℕ) (at : ℕ) → Walks bytes at → at + 1 < length bytes → is_escape (get_or bytes at 0)
    (get_or bytes (at + 1) 0) ≡ true → Walks bytes (at + 2)
walk_escape bytes at walks within escape =
    let same : at + 2 ≡ at + 1 + 1 = omega arith in
    let one : at < length bytes = omega (arith, within) in
    record {
      within = omega (arith, within);
      same =
          ap (λ n. all_in_front (take n bytes) (closing (drop n bytes))) same
          ∙ walk_on bytes (at + 1) (closing (drop (at + 1 + 1) bytes)) within
          ∙ walk_on bytes at (in_front (get_or bytes (at + 1) 0) (closing (drop (at + 1 + 1) bytes))) one
          ∙ ap (all_in_front (take at bytes))
          (sym (closing_escape (get_or bytes at 0) (get_or bytes (at + 1) 0) (drop (at + 1 + 1) bytes) escape))
          ∙ ap (λ rest. all_in_front (take at bytes) (closing (get_or bytes at 0 ∷ rest)))
          (sym (drop_at (at + 1) bytes within))
          ∙ ap (λ rest. all_in_front (take at bytes) (closing rest)) (sym (drop_at at bytes one))
          ∙ walks.same;
    }

-- a slice to the end
pub to_end : (at : ℕ) (bytes : List ℕ) → take (length bytes - at) (drop at bytes) ≡ drop at bytes
to_end at bytes = take_all (length bytes - at) (drop at bytes) (grind (arith, length-drop at bytes))

-- What is read of a member about a user is what it is, and the other way round.
use Rattle.std.proofs.Common.{
  ◌≡◌,
  ◌≢◌,
  ◌⊎◌,
  ℕ,
  zero,
  suc,
  ◌+◌,
  ◌<◌,
  ◌≤◌,
  ◌^◌,
  List,
  [],
  ◌∷◌,
  ◌++◌,
  map,
  get_or,
  Bool,
  true,
  false,
  cond,
  codes,
  Option,
  Some,
  None,
  option_and_then,
  Result,
  Ok,
  Err,
  refl,
  sym,
  ap,
  ◌∙◌,
  inl,
  inr,
  arith,
}
use Rattle.std.specs.List.{find, range_with_len}
use Rattle.std.specs.Option.{option_or}
use Rattle.std.specs.Str.{bytes_eq}
use Rattle.std.proofs.lemmas.Fmt.{decimal_injective}
use Rattle.std.proofs.lemmas.List.Folds.{find-append}
use Rattle.std.proofs.lemmas.Option.{same_Some}
use Rattle.std.proofs.lemmas.Slice.Eq.{bytes_eq-Decides}
use Rattle.hex.specs.declared.error.FromHexError.{FromHexError}
use Rattle.hex.specs.Hex.{decode_sized}
use Rattle.serde_json.specs.Find.{as_str}
use Rattle.table_terms.specs.declared.pair.Pair.{Pair}
use Rattle.table_terms.specs.declared.side.Side.{Side}
use Rattle.table_terms.specs.declared.side.Side.TheVariants.{NorthSouth, EastWest}
use Rattle.table_terms.specs.Pair.{pair_text}
use Rattle.table_terms.specs.PairReading.{IsPairText}
use Rattle.session_roles.specs.declared.edition.Edition.{Edition}
use Rattle.session_roles.specs.declared.edition.Edition.TheVariants.{First, Second}
use Rattle.session_roles.specs.declared.role.Role.{Role}
use Rattle.session_roles.specs.declared.role.Role.TheVariants.{
  Member,
  Spectator,
  Contestant,
  Scorer,
  Director,
  Administrator,
  Commentator,
}
use Rattle.session_roles.specs.Role.{roles_of, is_role_of, role_name}
use Rattle.user_names.specs.MemberNumber.{is_member_number}
use Rattle.user_names.specs.ShownName.{is_shown_name, is_shown_or_none}
use Rattle.user_names.specs.declared.digest.Digest.{Digest}
use Rattle.json_fields.specs.Field.{text, number, called, tested}
use Rattle.json_fields.specs.User.{
  shown_name,
  new_shown,
  member_number,
  stood_for,
  digest_named,
  digest,
  role_named,
  role_of,
  IsRole,
  user_roles,
  side_pairs,
  pair_named,
  paired,
  pair,
  absent,
  place,
}
use Rattle.json_fields.proofs.LetterLemmas.{place_found, place_reads, find_nothing, found_passes}
use Rattle.json_fields.proofs.FormLemmas.{
  Agrees,
  kept,
  named_agrees,
  listed_agrees,
  tested_agrees,
  if_there_agrees,
  or_else_agrees,
}

-- ---- names to show, and numbers

pub shown_agrees : Agrees shown_name
shown_agrees = or_else_agrees [] (tested (codes "shown") is_shown_name) (tested_agrees (codes "shown") is_shown_name)

pub new_shown_agrees : Agrees new_shown
new_shown_agrees = tested_agrees (codes "shown") is_shown_or_none

pub member_number_agrees : Agrees member_number
member_number_agrees =
    if_there_agrees (tested (codes "number") is_member_number) (tested_agrees (codes "number") is_member_number)

-- ---- digests

stands_read : (r : Result (List ℕ) FromHexError) (x : Digest) → stood_for r ≡ Some x → r ≡ Ok x.bytes
stands_read (Ok bytes) x h = let same : record { bytes = bytes } ≡ x = cc in ap (λ (d : Digest). Ok d.bytes) same
stands_read (Err error) x h = absurd (cc)

digits_read : (o : Option (List ℕ)) (x : Digest) → option_and_then digest_named o ≡ Some x
    → (digits : List ℕ) × (o ≡ Some digits) × (decode_sized digits 32 ≡ Ok x.bytes)
digits_read None x h = absurd (cc)
digits_read (Some digits) x h = (digits, refl, stands_read (decode_sized digits 32) x h)

pub digest_agrees : Agrees digest
digest_agrees = record {
  read = λ o x h. digits_read (text o) x h;
  reads = λ o x is. ap (option_and_then digest_named) is.1 ∙ ap stood_for is.2;
}

-- ---- roles

other_bytes : (a b : List ℕ) (is : Bool) → bytes_eq a b ≡ is → a ≢ b → is ≡ false
other_bytes a b true is other = absurd (other ((bytes_eq-Decides a b).0 is))
other_bytes a b false is other = refl

-- a role's name names it where the edition knows the role
role_back : (edition : Edition) (role : Role) → role_named edition (role_name role) ≡ cond (is_role_of edition role)
    (Some role) None
unfolding role_named roles_of
role_back First Member = refl
role_back First Spectator = refl
role_back First Contestant = refl
role_back First Scorer = refl
role_back First Director = refl
role_back First Administrator = refl
role_back First Commentator = refl
role_back Second Member = refl
role_back Second Spectator = refl
role_back Second Contestant = refl
role_back Second Scorer = refl
role_back Second Director = refl
role_back Second Administrator = refl
role_back Second Commentator = refl

pub role_read : (edition : Edition) (o : Option (List ℕ)) (role : Role)
    → option_and_then (role_named edition) o ≡ Some role → IsRole edition o role
unfolding role_named
role_read edition None role h = absurd (cc)
role_read edition (Some word) role h =
    let passes = found_passes (λ r. bytes_eq (role_name r) word) (roles_of edition) role h in
    let same : role_name role ≡ word = (bytes_eq-Decides (role_name role) word).0 passes in
    let back : cond (is_role_of edition role) (Some role) None ≡ Some role =
    sym (role_back edition role) ∙ ap (role_named edition) same ∙ h in
    record { is = ap Some (sym same); known = (kept (is_role_of edition role) (Some role) role back).0 }

pub role_reads : (edition : Edition) (o : Option (List ℕ)) (role : Role) → IsRole edition o role
    → option_and_then (role_named edition) o ≡ Some role
role_reads edition o role is =
    ap (option_and_then (role_named edition)) is.is ∙ role_back edition role
    ∙ ap (λ b. cond b (Some role) None) is.known

pub user_roles_agree : (edition : Edition) → Agrees (user_roles edition)
unfolding role_of
user_roles_agree edition =
    listed_agrees (codes "roles") (role_of edition) (λ d role. IsRole edition (as_str d) role)
    (λ d role h. role_read edition (as_str d) role h) (λ d role is. role_reads edition (as_str d) role is)

-- what a function found is the role of the name
pub role_found : (edition : Edition) (word : List ℕ) (role : Role) → role_name role ≡ word
    → is_role_of edition role ≡ true → Some role ≡ role_named edition word
role_found edition word role is known = sym (role_reads edition (Some word) role (record {
  is = ap Some (sym is);
  known = known;
}))

-- and nothing is where the edition doesn't know the role
pub other_role : (edition : Edition) (word : List ℕ) (role : Role) → role_name role ≡ word
    → is_role_of edition role ≡ false → None ≡ role_named edition word
other_role edition word role is other =
    sym (ap (role_named edition) (sym is) ∙ role_back edition role ∙ ap (λ b. cond b (Some role) None) other)

pub no_role_found : (edition : Edition) (word : List ℕ) → ((role : Role) → role_name role ≢ word)
    → None ≡ role_named edition word
unfolding role_named
no_role_found edition word none =
    sym (find_nothing (λ r. bytes_eq (role_name r) word) (roles_of edition)
    (λ r. other_bytes (role_name r) word _ refl (none r)))

-- ---- places

pub place_agrees : Agrees place
place_agrees = named_agrees _ _ _ place_reads place_found

-- ---- pairs

abbrev a_pair : Side → ℕ → Pair
a_pair side number = record { side = side; number = number }

abbrev some_pairs : Side → ℕ → ℕ → List Pair
some_pairs side from many = map (a_pair side) (range_with_len from many)

abbrev is_called : List ℕ → Pair → Bool
is_called word pair = bytes_eq (pair_text pair) word

same_number : (side : Side) (m n : ℕ) → pair_text (a_pair side m) ≡ pair_text (a_pair side n) → m < 2 ^ 64 →
    n < 2 ^ 64 → m ≡ n
same_number NorthSouth m n same small small' = decimal_injective m n small small' (cc)
same_number EastWest m n same small small' = decimal_injective m n small small' (cc)

-- among pairs of a side, the one that is called so is found
here_or_later : (side : Side) (word : List ℕ) (from many number : ℕ) (is : Bool) → is_called word (a_pair side from) ≡
    is
    → word ≡ pair_text (a_pair side number) → from ≤ number → number < from + suc many → from + suc many ≤ 256
    → (suc from ≤ number → find (is_called word) (some_pairs side (from + 1) many) ≡ Some (a_pair side number))
    → cond is (Some (a_pair side from)) (find (is_called word) (some_pairs side (from + 1) many)) ≡ Some
    (a_pair side number)
here_or_later side word from many number true is called least below few later =
    let same : from ≡ number =
    same_number side from number ((bytes_eq-Decides (pair_text (a_pair side from)) word).0 is ∙ called) (omega arith)
    (omega arith) in
    ap (λ n. Some (a_pair side n)) same
here_or_later side word from many number false is called least below few later =
    later (not_first from number least (λ same. let isnt = is in let equal =
    (bytes_eq-Decides (pair_text (a_pair side from)) word).1 (ap (λ n. pair_text (a_pair side n)) same ∙ sym called)
    in cc))
  where
    not_first : (m n : ℕ) → m ≤ n → m ≢ n → suc m ≤ n
    not_first m n le other = omega (arith, other)

found_pair : (side : Side) (word : List ℕ) (from many number : ℕ) → word ≡ pair_text (a_pair side number)
    → from ≤ number → number < from + many → from + many ≤ 256
    → find (is_called word) (some_pairs side from many) ≡ Some (a_pair side number)
found_pair side word from zero number called least below few = absurd (omega arith)
found_pair side word from (suc many) number called least below few =
    here_or_later side word from many number (is_called word (a_pair side from)) refl called least below few
    (λ least. found_pair side word (from + 1) many number called (omega arith) (omega arith) (omega arith))

-- where none is called so, none is found
none_called : (side : Side) (word : List ℕ) (from many : ℕ)
    → ((number : ℕ) → from ≤ number → number < from + many → pair_text (a_pair side number) ≢ word)
    → find (is_called word) (some_pairs side from many) ≡ None
none_called side word from zero none = refl
none_called side word from (suc many) none =
    ap (λ is. cond is (Some (a_pair side from)) (find (is_called word) (some_pairs side (from + 1) many)))
    (other_bytes (pair_text (a_pair side from)) word _ refl (none from (omega arith) (omega arith)))
    ∙ none_called side word (from + 1) many (λ number least below. none number (omega arith) (omega arith))

-- what is found is among them
in_range : (side : Side) (word : List ℕ) (from many : ℕ) (pair : Pair) (is : Bool)
    → cond is (Some (a_pair side from)) (find (is_called word) (some_pairs side (from + 1) many)) ≡ Some pair
    → (find (is_called word) (some_pairs side (from + 1) many) ≡ Some pair → (from + 1 ≤ pair.number) ×
    (pair.number < from + 1 + many))
    → (from ≤ pair.number) × (pair.number < from + suc many)
in_range side word from many pair true h later =
    let same : a_pair side from ≡ pair = same_Some (a_pair side from) pair h in
    let number : from ≡ pair.number = ap (λ (p : Pair). p.number) same in
    (omega arith, omega arith)
in_range side word from many pair false h later = let both = later h in (omega (arith, both.0), omega (arith, both.1))

found_among : (side : Side) (word : List ℕ) (from many : ℕ) (pair : Pair)
    → find (is_called word) (some_pairs side from many) ≡ Some pair → (from ≤ pair.number) × (pair.number < from + many)
found_among side word from zero pair h = absurd (cc)
found_among side word from (suc many) pair h =
    in_range side word from many pair (is_called word (a_pair side from)) h (found_among side word (from + 1) many pair)

other_side : (a b : ℕ) (xs ys : List ℕ) → b < a → a ∷ xs ≡ b ∷ ys → ⊥
other_side a b xs ys less same =
    let first : a ≡ b = ap (λ (l : List ℕ). get_or l 0 0) same in omega (arith, first, less)

-- the pair that is called so is found
pub pair_found : (word : List ℕ) (pair : Pair) → IsPairText pair word → Some pair ≡ pair_named word
unfolding pair_named
pair_found word pair is =
    sym (by_side pair.side pair.number (sym is.written) is.least is.most)
  where
    by_side : (side : Side) (number : ℕ) → word ≡ pair_text (a_pair side number) → 1 ≤ number → number ≤ 255
        → find (is_called word) (side_pairs NorthSouth ++ side_pairs EastWest) ≡ Some (a_pair side number)
    by_side NorthSouth number called least most =
        find-append (is_called word) (side_pairs NorthSouth) (side_pairs EastWest)
        ∙ ap (λ o. option_or o (find (is_called word) (side_pairs EastWest)))
        (found_pair NorthSouth word 1 255 number called least (omega arith) (omega arith))
    by_side EastWest number called least most =
        find-append (is_called word) (side_pairs NorthSouth) (side_pairs EastWest)
        ∙ ap (λ o. option_or o (find (is_called word) (side_pairs EastWest)))
        (none_called NorthSouth word 1 255 (λ other from to same. other_side 78 69 _ _ (omega arith)
        (same ∙ called)))
        ∙ found_pair EastWest word 1 255 number called least (omega arith) (omega arith)

pub no_pair_found : (word : List ℕ) → ((pair : Pair) → ¬ IsPairText pair word) → None ≡ pair_named word
unfolding pair_named
no_pair_found word none =
    sym (find-append (is_called word) (side_pairs NorthSouth) (side_pairs EastWest)
    ∙ ap (λ o. option_or o (find (is_called word) (side_pairs EastWest))) (of_side NorthSouth) ∙ of_side EastWest)
  where
    of_side : (side : Side) → find (is_called word) (side_pairs side) ≡ None
    of_side side = none_called side word 1 255 (λ number from to same. none (a_pair side number)
        (record { written = same; least = from; most = omega (arith, to) }))

-- what is read is one or the other
one_or_other : {A : Type 0} (a b : Option A) (x : A) → option_or a b ≡ Some x → (a ≡ Some x) ⊎ (b ≡ Some x)
one_or_other None b x h = inr h
one_or_other (Some y) b x h = inl h

record Named (word : List ℕ) (pair : Pair) : Type 0 where
  text : word ≡ pair_text pair
  least : 1 ≤ pair.number
  most : pair.number ≤ 255

named_side : (side : Side) (word : List ℕ) (pair : Pair) → find (is_called word) (side_pairs side) ≡ Some pair →
    Named word pair
named_side side word pair h =
    let range = found_among side word 1 255 pair h in
    record {
      text = sym ((bytes_eq-Decides (pair_text pair) word).0 (found_passes (is_called word) (side_pairs side) pair h));
      least = range.0;
      most = omega (arith, range.1);
    }

named_pair : (word : List ℕ) (pair : Pair) → pair_named word ≡ Some pair → Named word pair
unfolding pair_named
named_pair word pair h =
    elim (one_or_other _ _ pair (sym (find-append (is_called word) (side_pairs NorthSouth) (side_pairs EastWest)) ∙ h)) [
      | inl found ↦ named_side NorthSouth word pair found
      | inr found ↦ named_side EastWest word pair found
    ]

pair_at : (o : Option (List ℕ)) (pair : Pair) → option_and_then pair_named o ≡ Some pair
    → (o ≡ Some (pair_text pair)) × (1 ≤ pair.number) × (pair.number ≤ 255)
pair_at None pair h = absurd (cc)
pair_at (Some word) pair h = let is = named_pair word pair h in (ap Some is.text, is.least, is.most)

pub paired_agrees : (name : List ℕ) → Agrees (paired name)
paired_agrees name = record {
  read = λ o x h. let is = pair_at (text o) x h in record { is = is.0; least = is.1; most = is.2 };
  reads = λ o x is. ap (option_and_then pair_named) is.is
      ∙ sym (pair_found (pair_text x) x (record { written = refl; least = is.least; most = is.most }));
}

pub pair_agrees : Agrees pair
pair_agrees = paired_agrees _

pub absent_agrees : Agrees absent
absent_agrees = if_there_agrees (paired (codes "absent")) (paired_agrees (codes "absent"))

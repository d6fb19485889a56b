-- Lists that a loop makes, an item at a time.
use Rattle.std.proofs.Common.{◌≡◌, ℕ, zero, suc, ◌+◌, ◌<◌, List, [], ◌∷◌, ◌++◌, length, take, get_or, refl, sym, ap, ◌∙◌, arith}
use Rattle.std.specs.Prelude.{Option}
use Rattle.std.specs.List.{filter_map, cons_option, flat_map, range_with_len}
use Rattle.std.proofs.lemmas.Grind.{flat_map-append}
use Rattle.std.proofs.lemmas.List.{take_more, append-nil, length-map}
use Rattle.std.proofs.lemmas.List.Elements.{filter_map-append}
use Rattle.standings.specs.declared.earning.Earning.{Earning}
use Rattle.standings.specs.declared.traveller_row.TravellerRow.{TravellerRow}
use Rattle.movement.specs.Movement.{Section}
use Rattle.standings.specs.Ranking.{earnings_of}
use Rattle.standings.specs.Traveller.{traveller_rows}
use Rattle.standings.specs.declared.table_result.TableResult.{TableResult}
use Rattle.table_terms.specs.declared.vulnerability.Vulnerability.{Vulnerability}
use Rattle.session_report.specs.Report.{with_earnings}

-- what is given of the first items, and of one more
pub filter_map_more : {X Y : Type 0} (f : X → Option Y) (xs : List X) (k : ℕ) (d : X) → k < length xs →
    filter_map f (take (k + 1) xs) ≡ filter_map f (take k xs) ++ cons_option (f (get_or xs k d)) []
filter_map_more f xs k d below =
    ap (filter_map f) (take_more xs k d below) ∙ filter_map-append f (take k xs) (get_or xs k d ∷ [])

-- numbers in a row, and one more
range_more : (first n : ℕ) → range_with_len first (n + 1) ≡ range_with_len first n ++ (first + n) ∷ []
range_more first n = ap (range_with_len first) one_more ∙ more first n
  where
    one_more : n + 1 ≡ suc n
    one_more = omega arith

    more : (first n : ℕ) → range_with_len first (suc n) ≡ range_with_len first n ++ (first + n) ∷ []
    more first zero = λ i. none_more i ∷ []
      where
        none_more : first ≡ first + 0
        none_more = omega arith
    more first (suc n) = ap (λ rest. first ∷ rest)
        (more (first + 1) n ∙ (λ i. range_with_len (first + 1) n ++ next i ∷ []))
      where
        next : first + 1 + n ≡ first + suc n
        next = omega arith

-- the items of the first numbers, and of one more
pub flat_map_range_more : {X : Type 0} (f : ℕ → List X) (n : ℕ) →
    flat_map f (range_with_len 1 (n + 1)) ≡ flat_map f (range_with_len 1 n) ++ f (n + 1)
flat_map_range_more f n =
    ap (flat_map f) (range_more 1 n)
    ∙ (flat_map-append f (range_with_len 1 n) ((1 + n) ∷ [])
    ∙ (ap (λ items. flat_map f (range_with_len 1 n) ++ items) (append-nil (f (1 + n)))
    ∙ ap (λ k. flat_map f (range_with_len 1 n) ++ f k) (omega arith)))

-- what is given of the first numbers, and of one more
pub filter_map_range_more : {X : Type 0} (f : ℕ → Option X) (n : ℕ) →
    filter_map f (range_with_len 1 (n + 1)) ≡ filter_map f (range_with_len 1 n) ++ cons_option (f (n + 1)) []
filter_map_range_more f n =
    ap (filter_map f) (range_more 1 n)
    ∙ (filter_map-append f (range_with_len 1 n) ((1 + n) ∷ [])
    ∙ ap (λ k. filter_map f (range_with_len 1 n) ++ cons_option (f k) []) (omega arith))

-- the first rows beside what their results earn, and one more
pub beside_more : (board : ℕ) (rows : List TravellerRow) (earnings : List Earning) (k : ℕ) (row : TravellerRow) (earning : Earning) →
    k < length rows → length rows ≡ length earnings →
    with_earnings board (take (k + 1) rows) (take (k + 1) earnings)
    ≡ with_earnings board (take k rows) (take k earnings)
    ++ record { board = board; row = get_or rows k row; earning = get_or earnings k earning } ∷ []
beside_more board rows earnings k row earning below same =
    (λ i. with_earnings board (take (one_more i) rows) (take (one_more i) earnings)) ∙ more rows earnings k below same
  where
    one_more : k + 1 ≡ suc k
    one_more = omega arith

    more : (rows : List TravellerRow) (earnings : List Earning) (k : ℕ) → k < length rows → length rows ≡ length earnings →
        with_earnings board (take (suc k) rows) (take (suc k) earnings)
        ≡ with_earnings board (take k rows) (take k earnings)
        ++ record { board = board; row = get_or rows k row; earning = get_or earnings k earning } ∷ []
    more [] earnings k below same = absurd (omega (arith, below))
    more (r ∷ rows) [] k below same = absurd (omega (arith, same))
    more (r ∷ rows) (e ∷ earnings) zero below same = refl
    more (r ∷ rows) (e ∷ earnings) (suc k) below same =
        ap (λ rest. record { board = board; row = r; earning = e } ∷ rest)
        (more rows earnings k (omega (arith, below)) (omega (arith, same)))

-- of each result there is a row, and what it earns
pub same_length : (section : Section) (vulnerability : Vulnerability) (results : List TableResult) →
    length (traveller_rows section vulnerability results) ≡ length (earnings_of section vulnerability results)
unfolding traveller_rows earnings_of
same_length section vulnerability results = length-map results _ ∙ sym (length-map results _)

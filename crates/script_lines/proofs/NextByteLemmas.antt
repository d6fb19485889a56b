-- What a line has taken, once one byte more is asked of the reader.
use Rattle.std.proofs.Common.{
  ◌≡◌,
  ◌≢◌,
  ◌+◌,
  ◌-◌,
  ◌<◌,
  ◌≤◌,
  ◌∷◌,
  [],
  ◌++◌,
  ◌∙◌,
  inl,
  inr,
  ℕ,
  List,
  Bool,
  true,
  false,
  cond,
  length,
  take,
  sym,
  ap,
  subst,
  append-nil,
  length-append,
  length-take,
  length-take-le,
  arith,
}
use Rattle.std.specs.Prelude.{Option, Some, None, Result, Ok, Err, OnOk, OnErr}
use Rattle.std.specs.Result.{is_err}
use Rattle.std.specs.Io.BufRead.{ends_with_byte}
use Rattle.std.specs.Io.KnownBytes.{Consumes}
use Rattle.std.proofs.KnownBytes.{Consumes-trans}
use Rattle.std.proofs.Math.Seq.{take-append_seam}
use Rattle.std.proofs.lemmas.List.{take_all}
use Rattle.script_lines.specs.declared.reading.ReadFault.{ReadFault}
use Rattle.script_lines.specs.declared.reading.ReadFault.TheVariants.{Input, OutOfMemory}
use Rattle.script_lines.specs.Lines.{ended_line}
use Rattle.script_lines.specs.NextByte.{TakesByte, GivesNoByte}
use Rattle.script_lines.specs.Reading.{IsUnbroken, TakesEnded, TakesRest, FailsFor, FailsForMemory}
use Rattle.script_lines.proofs.ShortLineLemmas.{unbroken_with}

-- ---- what a result's test says

pub at_ok : {T E P : Type 0} (result : Result T E) → is_err result ≡ false → OnOk result P → P
at_ok (Ok value) ok known = known
at_ok (Err error) ok known = absurd (cc)

pub at_err : {T E P : Type 0} (result : Result T E) → is_err result ≡ true → OnErr result P → P
at_err (Ok value) failed known = absurd (cc)
at_err (Err error) failed known = known

-- ---- how much of a line is kept

-- where fewer bytes are kept than may be, all are
pub all_kept : (most : ℕ) (line piece : List ℕ) → line ≡ take (most + 2) piece → length line ≤ most + 1 → line ≡ piece
all_kept most line piece kept few =
    kept ∙ take_all (most + 2) piece (omega (arith, few, ap length kept, length-take (most + 2) piece))

-- a line isn't longer than its piece
pub no_longer : (piece : List ℕ) → length (ended_line piece) ≤ length piece
no_longer piece = by (ends_with_byte 13 piece)
  where
    by : (b : Bool) → length (cond b (take (length piece - 1) piece) piece) ≤ length piece
    by true = omega (arith, length-take-le (length piece - 1) piece (omega arith))
    by false = omega arith

-- ---- the bytes of a line so far, and what is asked for next

-- the line has one byte more
pub record GoesOn (before after : Option (List ℕ)) (piece : List ℕ) (byte all left left' : ℕ) : Type 0 where
  pub unbroken : IsUnbroken (piece ++ byte ∷ [])
  pub consumed : Consumes before after (piece ++ byte ∷ [])
  pub counted : left' + length (piece ++ byte ∷ []) ≡ all
  pub less : left' < left

module _ (before reader after : Option (List ℕ)) (piece : List ℕ) (all left left' : ℕ) (unbroken : IsUnbroken piece)
    (consumed : Consumes before reader piece) (counted : left + length piece ≡ all) where
  -- an LF ends the line
  pub ends_here : TakesByte (Some 10) reader after left left' → (line : List ℕ) → line ≡ ended_line piece →
      TakesEnded before after line all left'
  ends_here taken line shortened = record {
    piece = piece;
    unbroken = unbroken;
    consumed = Consumes-trans before reader after piece (10 ∷ []) consumed taken.0;
    shortened = shortened;
    counted = omega (arith, counted, taken.1);
  }

  -- there is none
  pub is_rest : (found : Option ℕ) → found ≡ None → TakesByte found reader after left left' → TakesRest before after
      piece all left'
  is_rest found none taken =
      let ended : TakesByte None reader after left left' = subst (λ o. TakesByte o reader after left left') none taken
      in
      record {
        unbroken = unbroken;
        consumed = subst (Consumes before after) (append-nil piece) (Consumes-trans before reader after piece []
            consumed ended.0);
        at_end = ended.1;
        counted = omega (arith, counted, ended.2);
      }

  -- the source fails, or has a byte too many
  pub fails_for : (fails : Type 0) (fault : ReadFault) → fault ≡ Input → GivesNoByte fails reader after left left' →
      (room : ℕ) (line : List ℕ) → line ≡ take room piece
      → FailsFor fails fault before after room line all left'
  fails_for fails OutOfMemory is why room line kept = absurd (cc)
  fails_for fails Input is (inl failing) room line kept = inl (record {
    failed = failing.failed;
    piece = piece;
    unbroken = unbroken;
    kept = kept;
    consumed = subst (Consumes before after) (append-nil piece) (Consumes-trans before reader after piece [] consumed
        failing.consumed);
    counted = omega (arith, counted, failing.uncounted);
  })
  fails_for fails Input is (inr more) room line kept = inr (record {
    piece = piece;
    unbroken = unbroken;
    kept = kept;
    beyond = more.beyond;
    consumed = Consumes-trans before reader after piece (more.beyond ∷ []) consumed more.consumed;
    counted = omega (arith, counted, more.uncounted);
    full = more.full;
  })

  -- the line goes on with another byte
  pub goes_on : (found : Option ℕ) (byte : ℕ) → found ≡ Some byte → byte ≢ 10 → TakesByte found reader after left left'
      → GoesOn before after piece byte all left left'
  goes_on found byte is other taken =
      let known : TakesByte (Some byte) reader after left left' = subst (λ o. TakesByte o reader after left left') is
      taken in
      record {
        unbroken = unbroken_with piece byte unbroken other;
        consumed = Consumes-trans before reader after piece (byte ∷ []) consumed known.0;
        counted = omega (arith, counted, known.1, length-append piece (byte ∷ []));
        less = omega (arith, known.1);
      }

  -- there is no memory for that byte
  pub fails_for_memory : (byte room : ℕ) → byte ≢ 10 → GoesOn before after piece byte all left left' → (line : List ℕ) →
      line ≡ piece
      → length line < room → FailsForMemory before after room line all left'
  fails_for_memory byte room other more line same few = record {
    unbroken = subst IsUnbroken (sym same) unbroken;
    lost = byte;
    ends_no_line = other;
    consumed = subst (λ l. Consumes before after (l ++ byte ∷ [])) (sym same) more.consumed;
    few = few;
    counted = omega (arith, ap length same, more.counted, length-append piece (byte ∷ []));
  }

-- the source fails after a CR that follows a line of which as much is kept as may be
pub fails_after : (fails : Type 0) (before reader after : Option (List ℕ)) (line : List ℕ) (room all left left' : ℕ) →
    IsUnbroken line → length line ≡ room
    → Consumes before reader (line ++ 13 ∷ []) → left + (length line + 1) ≡ all → (fault : ReadFault) → fault ≡ Input
    → GivesNoByte fails reader after left left' → FailsFor fails fault before after room line all left'
fails_after fails before reader after line room all left left' unbroken full consumed counted fault is why =
    fails_for before reader after (line ++ 13 ∷ []) all left left'
    (unbroken_with line 13 unbroken (λ same. absurd (omega (arith, same)))) consumed
    (omega (arith, counted, length-append line (13 ∷ []))) fails fault is why room line
    (sym (ap (λ n. take n (line ++ 13 ∷ [])) (sym full) ∙ take-append_seam line (13 ∷ [])))

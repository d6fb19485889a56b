-- Two states that agree for a user show the user the same, and so give the same replies.
use Rattle.std.proofs.Common.{◌≡◌, ℕ, Bool, true, List, [], ◌∷◌, refl, sym, ap, ◌∙◌, inl, inr}
use Rattle.std.specs.Prelude.{Some, cond, map, filter, Contains}
use Rattle.std.specs.Option.{unwrap_or}
use Rattle.std.proofs.lemmas.Bool.{cases_Bool}
use Rattle.disclosure_rules.specs.declared.fact.Fact.{Fact}
use Rattle.disclosure_rules.specs.declared.public.Public.{Public}
use Rattle.session_state.specs.SessionState.{SessionState, viewer_of}
use Rattle.session_queries.specs.Content.{content}
use Rattle.session_queries.specs.Facts.{facts}
use Rattle.session_queries.specs.Reading.{as_public}
use Rattle.session_queries.specs.Shown.{is_allowed, said, shown}
use Rattle.session_queries.specs.declared.query.Query.{Query}
use Rattle.published_view.specs.Agreement.{Agree}
use Rattle.published_view.proofs.ElementLemmas.{contains_first, contains_later}
use Rattle.published_view.proofs.PlaceLemmas.{fact_has}
use Rattle.published_view.specs.Answers.{answer_from}
use Rattle.session_queries.specs.Query.{fact_of}
use Rattle.published_view.specs.Reply.{before_answer, body_of, reply_of}

-- what is kept of some facts is the same where each that is kept says the same
same_kept : (one other : SessionState) (keeps : Fact → Bool) (items : List Fact) →
    ((asked : Fact) → Contains items asked → keeps asked ≡ true → content one asked ≡ content other asked) →
    map (said one) (filter keeps items) ≡ map (said other) (filter keeps items)
same_kept one other keeps [] agree = refl
same_kept one other keeps (item ∷ items) agree =
    let rest = same_kept one other keeps items (λ asked there. agree asked (contains_later item items asked there)) in
    elim (cases_Bool (keeps item)) [
      | inl kept ↦
          ap (λ b. map (said one) (cond b (item ∷ filter keeps items) (filter keeps items))) kept
          ∙ ((λ i. record { fact = item; content = agree item (contains_first item items) kept i } ∷ rest i)
          ∙ sym (ap (λ b. map (said other) (cond b (item ∷ filter keeps items) (filter keeps items))) kept))
      | inr denied ↦
          ap (λ b. map (said one) (cond b (item ∷ filter keeps items) (filter keeps items))) denied
          ∙ (rest
          ∙ sym (ap (λ b. map (said other) (cond b (item ∷ filter keeps items) (filter keeps items))) denied))
    ]

module _ (one other : SessionState) (user : List ℕ) (agree : Agree one other user) where
  -- what every member may see is the same
  same_public : one.public ≡ other.public
  same_public = some_same (ap as_public agree.public)
    where
      some_same : {a b : Public} → Some a ≡ Some b → a ≡ b
      some_same same = cc

  -- the user is shown the same
  same_shown : shown one (viewer_of one user) ≡ shown other (viewer_of other user)
  unfolding shown
  same_shown =
      same_kept one other (is_allowed one.public (viewer_of one user)) (facts one.public.movement)
      (λ asked there. agree.contents asked (fact_has one.public.movement asked there))
      ∙ (λ i. map (said other) (filter (is_allowed (same_public i) (agree.viewer i)) (facts (same_public i).movement)))

  -- two states that agree for a user give the user the same reply to every query
  pub same_replies : (version : ℕ) (query : Query) (since : ℕ) → reply_of one version user query since ≡ reply_of other
      version user query since
  unfolding body_of
  same_replies version query since =
      λ i. record {
        version = version;
        body = unwrap_or (before_answer (same_public i) version (agree.viewer i) (fact_of query) since)
            (answer_from query (same_shown i));
      }

-- Chains of inheritance pairs: what one pair more adds to them, and the test that decides whether there is one.
use Rattle.std.proofs.Common.{◌≡◌, ℕ, Bool, List, [], ◌∷◌, ◌++◌, zero, suc, inl, inr, refl, sym, ap, subst, arith}
use Rattle.std.specs.Prelude.{◌||◌, ◌&&◌, not, ◌⊎◌, Contains}
use Rattle.std.specs.Bool.{Decides}
use Rattle.std.proofs.lemmas.Bool.Decides.{same_from_decides, Decides-like, Decides-or, Decides-and}
use Rattle.std.proofs.lemmas.List.Elements.{
  Contains-append_left,
  Contains-append_right,
  Contains-append_cases,
  Contains-push,
  Contains-push_cases,
  All-contains_itself,
  All-filter,
  All-contains,
}
use Rattle.session_roles.specs.declared.role.Role.{Role}
use Rattle.rbac.specs.declared.inheritance.Inheritance.{Inheritance}
use Rattle.rbac.specs.Inheritance.{pair_of, Chain, Reaches, IsAcyclic, same_inheritance, without_pair, reaches}
use Rattle.session_roles.proofs.RoleLemmas.{same_role_decides}

-- a chain and one that leads on from it are a chain
joined_chain : (pairs : List Inheritance) (n m : ℕ) (senior middle junior : Role) → Chain pairs n senior middle →
    Chain pairs m middle junior → Reaches pairs senior junior
joined_chain pairs zero m senior middle junior same on = (m, subst (λ role. Chain pairs m role junior) (sym same) on)
joined_chain pairs (suc n) m senior middle junior down on =
    let rest = joined_chain pairs n m down.0 middle junior down.2 on in (suc rest.0, (down.0, down.1, rest.1))

pub reaches_on : (pairs : List Inheritance) (senior middle junior : Role) → Reaches pairs senior middle →
    Reaches pairs middle junior → Reaches pairs senior junior
reaches_on pairs senior middle junior down on = joined_chain pairs down.0 on.0 senior middle junior down.1 on.1

-- a chain is one of every list that has its pairs
pub chain_among : (pairs more : List Inheritance) → ((pair : Inheritance) → Contains pairs pair → Contains more pair) →
    (n : ℕ) (senior junior : Role) → Chain pairs n senior junior → Chain more n senior junior
chain_among pairs more among zero senior junior same = same
chain_among pairs more among (suc n) senior junior down =
    (down.0, among _ down.1, chain_among pairs more among n down.0 junior down.2)

-- by one pair more
abbrev Through : List Inheritance → Inheritance → Role → Role → Type 0
Through pairs pair senior junior = Reaches pairs senior pair.senior × Reaches pairs pair.junior junior

split_step : (pairs : List Inheritance) (pair : Inheritance) (n : ℕ) (senior middle junior : Role)
    → Contains pairs (pair_of senior middle) ⊎ (pair ≡ pair_of senior middle)
    → Chain pairs n middle junior ⊎ Through pairs pair middle junior
    → Chain pairs (suc n) senior junior ⊎ Through pairs pair senior junior
split_step pairs pair n senior middle junior (inl first) (inl rest) = inl (middle, first, rest)
split_step pairs pair n senior middle junior (inl first) (inr through) =
    inr ((suc through.0.0, (middle, first, through.0.1)), through.1)
split_step pairs pair n senior middle junior (inr same) (inl rest) =
    inr (
      (zero, sym (ap (λ (p : Inheritance). p.senior) same)),
      (n, subst (λ role. Chain pairs n role junior) (sym (ap (λ (p : Inheritance). p.junior) same)) rest),
    )
split_step pairs pair n senior middle junior (inr same) (inr through) =
    inr ((zero, sym (ap (λ (p : Inheritance). p.senior) same)), through.1)

-- a chain over one pair more does without it, or leads down to it and on from it
pub split_chain : (pairs more : List Inheritance) (pair : Inheritance) → ((other : Inheritance) → Contains more other →
    Contains pairs other ⊎ (pair ≡ other))
    → (n : ℕ) (senior junior : Role) → Chain more n senior junior → Chain pairs n senior junior ⊎
    Through pairs pair senior junior
split_chain pairs more pair cases zero senior junior same = inl same
split_chain pairs more pair cases (suc n) senior junior down =
    split_step pairs pair n senior down.0 junior (cases _ down.1) (split_chain pairs more pair cases n down.0 junior
    down.2)

-- the list has one pair more than another
record AddsPair (pairs : List Inheritance) (pair : Inheritance) (more : List Inheritance) : Type 0 where
  among : (other : Inheritance) → Contains pairs other → Contains more other
  there : Contains more pair
  cases : (other : Inheritance) → Contains more other → Contains pairs other ⊎ (pair ≡ other)

pushed : (pairs : List Inheritance) (pair : Inheritance) → AddsPair pairs pair (pairs ++ pair ∷ [])
pushed pairs pair = record {
  among = Contains-append_left pairs (pair ∷ []);
  there = Contains-push pairs pair;
  cases = Contains-push_cases pairs pair;
}

one_alone : (pair other : Inheritance) → Contains [] other ⊎ (pair ≡ other) → pair ≡ other
one_alone pair other (inl none) = absurd (omega (arith, none.1))
one_alone pair other (inr same) = same

put_first : (pair : Inheritance) (pairs : List Inheritance) (other : Inheritance) → Contains (pair ∷ []) other ⊎
    Contains pairs other → Contains pairs other ⊎ (pair ≡ other)
put_first pair pairs other (inl alone) = inr (one_alone pair other (Contains-push_cases [] pair other alone))
put_first pair pairs other (inr rest) = inl rest

first_of_all : (pair : Inheritance) (pairs : List Inheritance) → AddsPair pairs pair (pair ∷ pairs)
first_of_all pair pairs = record {
  among = Contains-append_right (pair ∷ []) pairs;
  there = Contains-append_left (pair ∷ []) pairs pair (Contains-push [] pair);
  cases = λ other there. put_first pair pairs other (Contains-append_cases (pair ∷ []) pairs other there);
}

-- what one pair more adds
module _ (pairs more : List Inheritance) (pair : Inheritance) (adds : AddsPair pairs pair more) where
  reaches_more : (senior junior : Role) → Reaches pairs senior junior → Reaches more senior junior
  reaches_more senior junior down = (down.0, chain_among pairs more adds.among down.0 senior junior down.1)

  by_pair : Reaches more pair.senior pair.junior
  by_pair = (suc zero, (pair.junior, adds.there, refl))

  put_together : (senior junior : Role) → Reaches pairs senior junior ⊎ Through pairs pair senior junior →
      Reaches more senior junior
  put_together senior junior (inl down) = reaches_more senior junior down
  put_together senior junior (inr through) =
      reaches_on more senior pair.senior junior (reaches_more _ _ through.0)
      (reaches_on more pair.senior pair.junior junior by_pair (reaches_more _ _ through.1))

  counted : (n : ℕ) (senior junior : Role) → Chain pairs n senior junior ⊎ Through pairs pair senior junior →
      Reaches pairs senior junior ⊎ Through pairs pair senior junior
  counted n senior junior (inl down) = inl (n, down)
  counted n senior junior (inr through) = inr through

  take_apart : (senior junior : Role) → Reaches more senior junior → Reaches pairs senior junior ⊎
      Through pairs pair senior junior
  take_apart senior junior down = counted down.0 senior junior (split_chain pairs more pair adds.cases down.0 senior
      junior down.1)

  decides_more : (test : Role → Role → Bool) → ((senior junior : Role) → Decides (test senior junior)
      (Reaches pairs senior junior))
      → (senior junior : Role) → Decides (test senior junior || (test senior pair.senior && test pair.junior junior))
      (Reaches more senior junior)
  decides_more test decides senior junior =
      Decides-like _ (put_together senior junior) (take_apart senior junior)
      (Decides-or _ _ (decides senior junior) (Decides-and _ _ (decides senior pair.senior)
      (decides pair.junior junior)))

no_pairs : (senior junior : Role) → Reaches [] senior junior → senior ≡ junior
no_pairs senior junior (zero, same) = same
no_pairs senior junior (suc n, down) = absurd (omega (arith, down.1.1))

-- the test decides whether the senior reaches the junior
pub decides_reaches : (pairs : List Inheritance) (senior junior : Role) → Decides (reaches pairs senior junior)
    (Reaches pairs senior junior)
unfolding reaches
decides_reaches [] senior junior =
    Decides-like _ (λ same. (zero, same)) (no_pairs senior junior) (same_role_decides senior junior)
decides_reaches (pair ∷ pairs) senior junior =
    decides_more pairs (pair ∷ pairs) pair (first_of_all pair pairs) (reaches pairs) (decides_reaches pairs) senior
    junior

-- one pair more at the end
pub reaches_push : (pairs : List Inheritance) (pair : Inheritance) (senior junior : Role) → reaches (pairs ++ pair ∷ [])
    senior junior ≡ (reaches pairs senior junior || (reaches pairs senior pair.senior && reaches pairs pair.junior
    junior))
reaches_push pairs pair senior junior =
    same_from_decides _ _ (decides_reaches (pairs ++ pair ∷ []) senior junior)
    (decides_more pairs (pairs ++ pair ∷ []) pair (pushed pairs pair) (reaches pairs) (decides_reaches pairs) senior
    junior)

no_round : (pairs : List Inheritance) (pair : Inheritance) (role : Role) (n : ℕ) → IsAcyclic pairs →
    ¬ Reaches pairs pair.junior pair.senior → Chain pairs (suc n) role role ⊎ Through pairs pair role role → ⊥
no_round pairs pair role n acyclic up (inl round) = acyclic role n round
no_round pairs pair role n acyclic up (inr through) =
    up (reaches_on pairs pair.junior role pair.senior through.1 through.0)

-- a pair whose junior does not reach its senior closes no cycle
pub acyclic_push : (pairs : List Inheritance) (pair : Inheritance) → IsAcyclic pairs → ¬ Reaches pairs pair.junior
    pair.senior → IsAcyclic (pairs ++ pair ∷ [])
acyclic_push pairs pair acyclic up role n round =
    no_round pairs pair role n acyclic up (split_chain pairs (pairs ++ pair ∷ []) pair (Contains-push_cases pairs pair)
    (suc n) role role round)

-- a pair that is left is one of all
pub contains_without : (pairs : List Inheritance) (pair other : Inheritance) → Contains (without_pair pairs pair)
    other → Contains pairs other
contains_without pairs pair other there =
    All-contains (Contains pairs) (without_pair pairs pair) other
    (All-filter (λ other. not (same_inheritance other pair)) (Contains pairs) pairs (All-contains_itself pairs))
    there

-- without a pair there is no more chain than before
pub reaches_without : (pairs : List Inheritance) (pair : Inheritance) (senior junior : Role) →
    Reaches (without_pair pairs pair) senior junior → Reaches pairs senior junior
reaches_without pairs pair senior junior down =
    (down.0, chain_among (without_pair pairs pair) pairs (contains_without pairs pair) down.0 senior junior down.1)

pub acyclic_without : (pairs : List Inheritance) (pair : Inheritance) → IsAcyclic pairs →
    IsAcyclic (without_pair pairs pair)
acyclic_without pairs pair acyclic role n round =
    acyclic role n (chain_among (without_pair pairs pair) pairs (contains_without pairs pair) (suc n) role role round)

-- What is found of a job. A table is seen as its deal, and costs as their deal, contract and play, since their types
-- keep the numbers.
use Rattle.std.specs.Prelude.{◌≡◌, refl}
use Rattle.std.specs.Coded.{Coded, code_by, coded×}
use Rattle.solver_pool.specs.contracts.found.Found as the_found
use Rattle.solver_pool.specs.contracts.job.Job as the_job
use Rattle.solver_pool.specs.declared.found.Found.{Found}
use Rattle.solver_pool.specs.declared.found.Found.TheVariants as found
use Rattle.solver_pool.specs.declared.job.Job.{Job}
use Rattle.solver_pool.specs.declared.work.Work.{Work}
use Rattle.solver_pool.specs.declared.work.Work.TheVariants as work

-- the table of the work's deal, or the costs of its play with its deal and contract; or none, where visits or memory
-- ran out
abbrev pub IsFoundOf : Work → Found → Type 0
IsFoundOf (work.Table board deal) (found.Table table) = table ≡ deal
IsFoundOf (work.Table board deal) (found.Costs costs) = ⊥
IsFoundOf (work.Table board deal) found.OutOfBudget = Unit {0}
IsFoundOf (work.Table board deal) found.OutOfMemory = Unit {0}
IsFoundOf (work.Costs cell deal contract play) (found.Table table) = ⊥
IsFoundOf (work.Costs cell deal contract play) (found.Costs costs) =
    costs ≡ record { deal = deal; contract = contract; play = play }
IsFoundOf (work.Costs cell deal contract play) found.OutOfBudget = Unit {0}
IsFoundOf (work.Costs cell deal contract play) found.OutOfMemory = Unit {0}

-- a job, and what was found of it
pub record Finished : Type 0 where
  pub job : Job
  pub found : Found

-- it is stored as a pair
abbrev pub finished_code : Coded Finished
finished_code =
    code_by (Job × Found) (coded× the_job.the_row.coded the_found.the_row.coded)
    (λ f. (f.job, f.found))
    (λ p. record { job = p.0; found = p.1 })
    (λ _. refl)

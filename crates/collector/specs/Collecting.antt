-- own: what is entered of what a worker found.
use Rattle.std.specs.Prelude.{◌≡◌, Bool, true, false, Option, Some, None, List}
use Rattle.session_commands.specs.declared.command.Command.{Command}
use Rattle.session_commands.specs.declared.command.Command.TheVariants.{Solved, Analysed}
use Rattle.solver_pool.specs.Collected.{is_collected, with_collected}
use Rattle.solver_pool.specs.Done.{Finished}
use Rattle.solver_pool.specs.declared.found.Found.{Found}
use Rattle.solver_pool.specs.declared.found.Found.TheVariants as found
use Rattle.solver_pool.specs.declared.work.Work.{Work}
use Rattle.solver_pool.specs.declared.work.Work.TheVariants as work

-- the command of the solver's that tells what was found of some work: the table of its board, or what the cards cost that
-- were played at its cell. Where visits or memory ran out there is none
abbrev pub telling_command : Work → Found → Option Command
telling_command (work.Table board deal) (found.Table table) = Some (Solved board table)
telling_command (work.Table board deal) (found.Costs costs) = None
telling_command (work.Table board deal) found.OutOfBudget = None
telling_command (work.Table board deal) found.OutOfMemory = None
telling_command (work.Costs cell deal contract play) (found.Table table) = None
telling_command (work.Costs cell deal contract play) (found.Costs costs) = Some (Analysed cell costs)
telling_command (work.Costs cell deal contract play) found.OutOfBudget = None
telling_command (work.Costs cell deal contract play) found.OutOfMemory = None

-- what is entered of a result, by whether its job was given and collected before: nothing of a stranger, a job that was
-- never given, and nothing of a double, one whose result came before
abbrev pub entered_at : Option Bool → Work → Found → Option Command
entered_at None work found = None
entered_at (Some true) work found = None
entered_at (Some false) work found = telling_command work found

-- what is entered of a result by a pool that has collected these
abbrev pub entered_of : List Bool → Finished → Option Command
entered_of jobs done = entered_at (is_collected jobs done.job.number) done.job.work done.found

-- the pool after a result came: the job is collected, if it was given
abbrev pub collected_at : Option Bool → List Bool → Finished → List Bool
collected_at None jobs done = jobs
collected_at (Some true) jobs done = jobs
collected_at (Some false) jobs done = with_collected jobs done.job.number

abbrev pub after_result : List Bool → Finished → List Bool
after_result jobs done = collected_at (is_collected jobs done.job.number) jobs done

-- own: the line of each thing that keeps the program from its work, and the status with which it ends.
use Rattle.std.specs.Prelude.{◌≡◌, ℕ, ◌⊎◌, Option, List, ◌++◌, codes}
use Rattle.std.specs.Fmt.{decimal}
use Rattle.operator_lines.specs.Telling.{TellsLine, named_line, untold_line}
use Rattle.operator_lines.specs.Faults.{file_fault_text, port_fault_text}
use Rattle.operator_lines.specs.declared.obstacle.MemoryFor.{MemoryFor}
use Rattle.operator_lines.specs.declared.obstacle.MemoryFor.TheVariants.{Words, Script, Session, Journal, Page, Threads}
use Rattle.operator_lines.specs.declared.obstacle.Obstacle.{Obstacle}
use Rattle.operator_lines.specs.declared.obstacle.Obstacle.TheVariants.{
  Unread,
  Unwritten,
  NotListening,
  ScriptUnread,
  OutputUnwritten,
  LineUntold,
  NoRandomness,
  OutOfMemory,
  NoPlace,
  NoThread,
}

-- what there is no memory for
abbrev pub memory_line : MemoryFor → List ℕ
memory_line Words = codes "bridge_server: OutOfMemory (for the words)\n"
memory_line Script = codes "bridge_server: OutOfMemory (for the script)\n"
memory_line Session = codes "bridge_server: OutOfMemory (for the session)\n"
memory_line Journal = codes "bridge_server: OutOfMemory (for the journal)\n"
memory_line Page = codes "bridge_server: OutOfMemory (for the page)\n"
memory_line Threads = codes "bridge_server: OutOfMemory (for displays and workers)\n"

-- the line of each
abbrev pub obstacle_line : Obstacle → List ℕ
obstacle_line (Unread path fault) = named_line (codes "Unread") path.now (file_fault_text fault)
obstacle_line (Unwritten path fault) = named_line (codes "Unwritten") path.now (file_fault_text fault)
obstacle_line (NotListening port fault) =
    codes "bridge_server: NotListening (port " ++ (decimal port ++ (codes ": " ++ (port_fault_text fault ++ codes ")\n")))
obstacle_line ScriptUnread = codes "bridge_server: ScriptUnread (the script can't be read, or is too long)\n"
obstacle_line OutputUnwritten = codes "bridge_server: OutputUnwritten (the output can't be written)\n"
obstacle_line LineUntold =
    codes "bridge_server: LineUntold (the output can't be written, or the script can't be read on)\n"
obstacle_line NoRandomness = codes "bridge_server: NoRandomness (the system gives no random bytes)\n"
obstacle_line (OutOfMemory purpose) = memory_line purpose
obstacle_line NoPlace = codes "bridge_server: NoPlace (there is no place for a display)\n"
obstacle_line NoThread = codes "bridge_server: NoThread (no thread could be started for any display)\n"

-- 4 for want of memory, of a place or of a thread, and 3 for all else
abbrev pub obstacle_status : Obstacle → ℕ
obstacle_status (Unread path fault) = 3
obstacle_status (Unwritten path fault) = 3
obstacle_status (NotListening port fault) = 3
obstacle_status ScriptUnread = 3
obstacle_status OutputUnwritten = 3
obstacle_status LineUntold = 3
obstacle_status NoRandomness = 3
obstacle_status (OutOfMemory purpose) = 4
obstacle_status NoPlace = 4
obstacle_status NoThread = 4

-- its line is told, or that there is no memory for it
abbrev pub TellsObstacle : Obstacle → Option (List ℕ) → Option (List ℕ) → Type 0
TellsObstacle obstacle before after =
    TellsLine before after (obstacle_line obstacle) ⊎ TellsLine before after untold_line

-- something that ends the program with this status is told
abbrev pub ToldWhy : ℕ → Option (List ℕ) → Option (List ℕ) → Type 0
ToldWhy status before after =
    (obstacle : Obstacle) × (obstacle_status obstacle ≡ status) × TellsObstacle obstacle before after

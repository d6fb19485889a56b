-- own: why a file isn't read or written, and why nothing can listen at a port, in words.
use Rattle.std.specs.Prelude.{ℕ, List, codes}
use Rattle.operator_lines.specs.declared.file_fault.FileFault.{FileFault}
use Rattle.operator_lines.specs.declared.file_fault.FileFault.TheVariants as file
use Rattle.operator_lines.specs.declared.port_fault.PortFault.{PortFault}
use Rattle.operator_lines.specs.declared.port_fault.PortFault.TheVariants as port

-- why a file isn't read or written
abbrev pub file_fault_text : FileFault → List ℕ
file_fault_text file.Missing = codes "there is no such file or folder"
file_fault_text file.Forbidden = codes "the system doesn't allow it"
file_fault_text file.Folder = codes "it is a folder"
file_fault_text file.TooLong = codes "it is too long"
file_fault_text file.Full = codes "there is no room on the disk"
file_fault_text file.Failed = codes "the system can't do it"

-- why nothing can listen at a port
abbrev pub port_fault_text : PortFault → List ℕ
port_fault_text port.Taken = codes "another program listens there"
port_fault_text port.Forbidden = codes "the system doesn't allow it"
port_fault_text port.Elsewhere = codes "this computer hasn't that address"
port_fault_text port.Failed = codes "the system can't do it"

-- The numbers of the faults of nodes.
use Rattle.std.specs.Prelude.{ℕ}
use Rattle.pg_cert.specs.declared.node_fault.NodeFault.{NodeFault}
use Rattle.pg_cert.specs.declared.node_fault.NodeFault.TheVariants.{Child, Marks, Turn, Moves, End}
use Rattle.pg_cert.specs.declared.node_fault.NodeFault.TheVariants.{Pairs, Potential, Trees, Cuts}
use Rattle.pg_cert.specs.declared.node_fault.NodeFault.TheVariants.{Threat, Root, Body, Weaker}

-- the number of a fault's code
abbrev pub fault_number : NodeFault → ℕ
fault_number Child = 1
fault_number Marks = 2
fault_number Turn = 3
fault_number Moves = 4
fault_number End = 5
fault_number Pairs = 6
fault_number Potential = 7
fault_number Trees = 8
fault_number Cuts = 9
fault_number Threat = 10
fault_number Root = 11
fault_number Body = 12
fault_number Weaker = 13

use Rattle.px_cli.proofs.TopCallLemmas.{line_given, line_broken, line_cut}
use Rattle.px_cli.proofs.top_call.write_line.Goals as goal

pub returns-in-All : goal.returns-in-All
returns-in-All g c = line_given _ _ _ _ _ c.as_slice.ensures c.in-All.ensures

pub returns-in-Fault : goal.returns-in-Fault
returns-in-Fault g c = line_broken _ _ _ _ _ c.as_slice.ensures c.in-Fault.ensures

pub returns-in-NoMemory : goal.returns-in-NoMemory
returns-in-NoMemory g c = line_cut _ _ _ _ _ _ _ _ _ _ _ c.tell_no_memory.ensures.status c.as_slice.ensures c.in-NoMemory.ensures c.tell_no_memory.ensures.line

-- The code's draft (a script that is still being read), as a draft of the definitions.
use Rattle.std.specs.Prelude.{map}
use Rattle.key_names.specs.Texts.ScriptFaults as faults
use Rattle.event_script.specs.declared.whole.draft.Draft.{Draft}

abbrev pub draft_as : Draft → faults.Draft
draft_as d = record {
  version = d.head.version;
  cpus = d.head.cpus;
  done = map (λ block. block.items) d.done.items;
  events = d.events.items;
}

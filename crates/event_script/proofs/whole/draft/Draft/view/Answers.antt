use Rattle.std.proofs.Common.{arith, refl}
use Rattle.std.proofs.lemmas.List.{length-map}
use Rattle.event_script.proofs.whole.draft.Draft.view.Goals as goal

pub returns-clause-seen : goal.returns-clause-seen
returns-clause-seen c =
    let d = c.args.self.now in
    record {
      version = refl;
      cpus = refl;
      blocks = omega (arith, length-map d.done.items (λ block. block.items), d.done.ok.0);
      events = c.deref.ensures.value;
      orphan = c.has_orphan.ensures;
    }

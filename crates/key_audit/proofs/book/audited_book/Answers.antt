use Rattle.std.proofs.Common.{map}
use Rattle.key_names.specs.Transcripts.SameSteps.{bare}
use Rattle.key_audit.proofs.Books.{kept_of_bare}
use Rattle.key_audit.proofs.book.audited_book.Goals as goal

pub returns-in-Lawful : goal.returns-in-Lawful
returns-in-Lawful c =
    let sound = rw c.in-Lawful.is at c.in_ok-basis.ensures.judged in
    let conform = rw c.in-Lawful.is at c.in_ok-basis.ensures.lists in
    record {
      sound = sound;
      keeps = kept_of_bare c.args.script.now c.args.t sound.book sound.meanings sound.lawful c.in_ok-book-in-Lawful.book
          (λ made. c.in_ok-book-in-Lawful.ensures c.args.script.now (map (map bare) c.args.t) conform made);
    }

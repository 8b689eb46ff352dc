use Rattle.std.proofs.Common.{◌≡◌, ℕ, ◌+◌, List, [], ◌∷◌, ap, ◌∙◌, arith, length, length-append}
use Rattle.std.specs.Prelude.{slice_get, unwrap_or}
use Rattle.audit_keys.proofs.Starts.{known_more, owns_long}
use Rattle.audit_keys.proofs.lists.start_stamps.Goals as goal

pub loop-caller-preserved : goal.loop-caller-preserved
loop-caller-preserved c =
    let start : List ℕ = c.loop-caller.starts.items in
    let n : ℕ = c.loop-caller.caller in
    let longer : length c.push.new.self.items ≡ n + 1 =
    ap (λ (xs : List ℕ). length xs) c.in_ok-push.ensures.items
    ∙ length-append start (c.start_stamp-stamp.result ∷ []) ∙ ap (λ m. m + 1) c.loop-caller.invariant.count in record {
      count = longer;
      known = λ callers own forks p low.
          ap (λ (xs : List ℕ). unwrap_or (slice_get xs p) 0) c.in_ok-push.ensures.items
          ∙ known_more callers start c.start_stamp-stamp.result n c.loop-caller.invariant.count
          (c.loop-caller.invariant.known callers own forks)
          (c.start_stamp-stamp.ensures callers own forks
          (ap (λ (xs : List ℕ). length xs) c.deref.ensures.value ∙ c.loop-caller.invariant.count)
          (λ q below. ap (λ (xs : List ℕ). unwrap_or (slice_get xs q) 0) c.deref.ensures.value
          ∙ c.loop-caller.invariant.known callers own forks q below)) p low;
    }

pub returns : goal.returns
returns c = λ callers own forks n low.
    let long = owns_long c.args.own.now callers own in c.loop-caller.invariant.known callers own forks n (omega arith)

use Rattle.std.proofs.Common.{◌≡◌, ◌<◌, ◌+◌, ◌++◌, ◌∷◌, [], ℕ, zero, suc, Bool, true, false, List, length, refl, sym, ap, ◌∙◌, subst, arith, rules, append_assoc}
use Rattle.std.specs.Prelude.{◌==◌, ◌&&◌}
use Rattle.std.proofs.lemmas.Bool.{ne_eqb}
use Rattle.std.proofs.lemmas.Result.{err_from_is_err_and}
use Rattle.key_names.specs.declared.entries.BaseEntry.TheVariants.{Wait, Resume, Interrupt}
use Rattle.key_names.specs.declared.entries.Taken.TheVariants.{User}
use Rattle.key_names.specs.declared.events.Event.TheVariants.{Read}
use Rattle.key_names.specs.declared.events.Answer.TheVariants.{Ok as Done}
use Rattle.key_names.specs.declared.names.Step.{Step}
use Rattle.key_names.specs.declared.names.Step.TheVariants.{Look}
use Rattle.key_names.specs.Transcripts.SeenLine.{bytes_or_none}
use Rattle.key_names.specs.Callers.Effects.{Effect, looked}
use Rattle.key_names.specs.Callers.Forms.{BaseOnly, CpuReadForm, ReadForm}
use Rattle.rng_core.specs.Makes.{Serving, setting_of}
use Rattle.rng_core.specs.Sites.{Completes}
use Rattle.rng_core.specs.SiteWaits.{waiting_at}
use Rattle.rng_core.specs.Traces.{BeginsWithLook}
use Rattle.rng_core.proofs.Makings.{After, did_floor}
use Rattle.rng_core.proofs.SiteLemmas.{does_map, does_within, does_look, does_found, does_then, does_nothing}
use Rattle.rng_core.proofs.SysFulfilling.{sys_invalid, sys_again, sys_interrupted, sys_waited_none, sys_waited, sys_none, sys_read}
use Rattle.rng_core.proofs.Hosting.{none_left}
use Rattle.rng_core.proofs.interface.system_call.getrandom.Goals as goal

found_none : (found : ℕ) (b : Bool) → (found == 0 && b) ≡ true → found ≡ 0
found_none zero b e = refl
found_none (suc g) b e = let f : false ≡ true =
    ap (λ (x : Bool). x && b) (sym (ne_eqb (suc g) 0 (λ z. omega arith))) ∙ e in absurd (cc f)

-- The clauses `does`: the effects of getrandom on each path

pub returns-then-are_bad-clause-does : goal.returns-then-are_bad-clause-does
returns-then-are_bad-clause-does g c = does_nothing _ _ c.requires.idle
    (sys_invalid _ _ _ (sym c.are_bad.ensures ∙ c.if-are_bad.true))

pub returns-then-is_nonblock-clause-does : goal.returns-then-is_nonblock-clause-does
returns-then-is_nonblock-clause-does g c = let good = sym c.are_bad.ensures ∙ c.if-are_bad.false in let must =
    sym c.must_wait.ensures ∙ c.if-must_wait.true in
    does_within 1 _ _ _ (omega arith) (does_map 1 _ _
    (λ effects e. sys_again (setting_of c.args.site.now.set) (length c.args.buf.now) c.args.flags c.look-found.result good
    must (sym c.is_nonblock.ensures ∙ c.if-is_nonblock.true) effects e) (does_look _ _ _ c.look-found.ensures))

pub returns-in_err-wait_ready-clause-does : goal.returns-in_err-wait_ready-clause-does
returns-in_err-wait_ready-clause-does g c = let good = sym c.are_bad.ensures ∙ c.if-are_bad.false in let must =
    sym c.must_wait.ensures ∙ c.if-must_wait.true in let patient =
    sym c.is_nonblock.ensures ∙ c.if-is_nonblock.false in let w = c.in_err-wait_ready.ensures in
    let s = c.args.site.now in
    let err = err_from_is_err_and c.from_residual.result c.from_residual.ensures.1 in
    rw (err.1, err.2, w.0) (does_within 3 _ _ _ (omega arith) (does_map 3 _ _
    (λ effects h. sys_interrupted (setting_of s.set) (length c.args.buf.now) c.args.flags c.look-found.result good
    must patient h.holds.first h.holds.rest effects h.holds.before h.holds.following
    (h.effects_are ∙ ap (λ (l : List Effect). looked c.look-found.result ∷ l) h.holds.effects_are))
    (does_found (λ set. After (BaseOnly Wait) (Serving (BaseOnly Interrupt) [])) 2 c.look-found.result _ _ _
    c.look-found.ensures.looked
    (does_then (λ set. Serving (BaseOnly Interrupt) []) 1 1 _ _ _ c.wait.ensures w.1))))

pub returns-then-is_empty-clause-does : goal.returns-then-is_empty-clause-does
returns-then-is_empty-clause-does g c = let good = sym c.are_bad.ensures ∙ c.if-are_bad.false in let must =
    sym c.must_wait.ensures ∙ c.if-must_wait.true in let patient =
    sym c.is_nonblock.ensures ∙ c.if-is_nonblock.false in let w = c.in_ok-wait_ready.ensures in
    let s = c.args.site.now in
    let none : length c.args.buf.now ≡ 0 = search rules in
    subst (λ (z : List ℕ). Completes (4 + waiting_at s) (Read (length c.args.buf.now) c.args.flags) Done
    (bytes_or_none z) s c.wait_ready.new.site) (sym (none_left c.args.buf.now none))
    (does_within 3 _ _ _ (omega arith) (does_map 3 _ _ (λ effects h. sys_waited_none (setting_of s.set)
    (length c.args.buf.now) c.args.flags c.look-found.result good must patient none h.holds.first h.holds.rest effects
    h.holds.before h.holds.following
    (h.effects_are ∙ ap (λ (l : List Effect). looked c.look-found.result ∷ l) h.holds.effects_are))
    (does_found (λ set. After (BaseOnly Wait) (Serving (BaseOnly Resume) [])) 2 c.look-found.result _ _ _
    c.look-found.ensures.looked
    (does_then (λ set. Serving (BaseOnly Resume) []) 1 1 _ _ _ c.wait.ensures w.1))))

pub returns-then-must_wait-clause-does : goal.returns-then-must_wait-clause-does
returns-then-must_wait-clause-does g c = let good = sym c.are_bad.ensures ∙ c.if-are_bad.false in let must =
    sym c.must_wait.ensures ∙ c.if-must_wait.true in let patient =
    sym c.is_nonblock.ensures ∙ c.if-is_nonblock.false in let w = c.in_ok-wait_ready.ensures in
    let s = c.args.site.now in
    let some : 0 < length c.args.buf.now = search rules in let n = length c.args.buf.now in
    let bytes = c.read_cpu.new.buf in
    let unseen = found_none c.look-found.result _ must in let above = c.look-found.ensures.looked.above in
    does_within 6 _ _ _ (omega arith) (does_map 6 _ _ (λ effects h. sys_waited (setting_of s.set) n c.args.flags
    c.look-found.result good must patient some h.holds.first h.holds.following.first h.holds.following.rest effects _
    h.holds.before h.holds.following.before.form h.holds.following.following
    (h.effects_are ∙ (λ i. looked c.look-found.result
    ∷ (h.holds.effects_are ∙ ap (λ (l : List Effect). h.holds.first ++ l) h.holds.following.effects_are) i)))
    (does_found (λ set. After (BaseOnly Wait)
    (After (Serving (BaseOnly Resume) []) (Serving (CpuReadForm (setting_of set) (User n)) bytes)))
    5 c.look-found.result _ _ _ c.look-found.ensures.looked
    (does_then (λ set. After (Serving (BaseOnly Resume) []) (Serving (CpuReadForm (setting_of set) (User n)) bytes)) 1 4
    _ _ _
    c.wait.ensures (does_then (λ set. Serving (CpuReadForm (setting_of set) (User n)) bytes) 1 3 _ _ _ w.1
    c.read_cpu.ensures))))

pub returns-then-is_empty-2-clause-does : goal.returns-then-is_empty-2-clause-does
returns-then-is_empty-2-clause-does g c = let good = sym c.are_bad.ensures ∙ c.if-are_bad.false in let takes =
    sym c.must_wait.ensures ∙ c.if-must_wait.false in let none : length c.args.buf.now ≡ 0 = search rules in
    let s = c.args.site.now in
    subst (λ (z : List ℕ). Completes (4 + waiting_at s) (Read (length c.args.buf.now) c.args.flags) Done
    (bytes_or_none z) s c.look-found.new.self) (sym (none_left c.args.buf.now none))
    (does_within 1 _ _ _ (omega arith) (does_map 1 _ _ (λ effects e. sys_none (setting_of s.set) (length c.args.buf.now)
    c.args.flags c.look-found.result good takes none effects e) (does_look _ _ _ c.look-found.ensures)))

pub returns-clause-does : goal.returns-clause-does
returns-clause-does g c = let good = sym c.are_bad.ensures ∙ c.if-are_bad.false in let takes =
    sym c.must_wait.ensures ∙ c.if-must_wait.false in let some : 0 < length c.args.buf.now = search rules in
    let n = length c.args.buf.now in let found = c.look-found.result in
    does_within 4 _ _ _ (omega arith) (does_map 4 _ _
    (λ effects h. sys_read (setting_of c.args.site.now.set) n c.args.flags
    found good takes some h.rest effects _ h.holds h.effects_are)
    (does_found (λ set. Serving (ReadForm (setting_of set) (User n) found) c.read_after.new.buf) 3 found _ _ _
    c.look-found.ensures.looked c.read_after.ensures))

-- The clauses about the call's first step, and about the number of steps that a wait may still take

begun : (before : List Step) (look : ℕ) (one : List Step) → one ≡ before ++ Look look ∷ [] → BeginsWithLook before one
begun before look one is = record { look = look; rest = []; is = is }

begun_more : (before one after more : List Step) → after ≡ one ++ more → BeginsWithLook before one →
    BeginsWithLook before after
begun_more before one after more e k =
    record {
      look = k.look;
      rest = k.rest ++ more;
      is = e ∙ ap (λ (l : List Step). l ++ more) k.is ∙ append_assoc before (Look k.look ∷ k.rest) more;
    }

pub returns-then-are_bad-clause-begins : goal.returns-then-are_bad-clause-begins
returns-then-are_bad-clause-begins g c = record {
  begins = λ good. let e : true ≡ false = sym c.if-are_bad.true ∙ c.are_bad.ensures ∙ good in absurd (cc e);
  room = omega arith;
}

pub returns-then-is_nonblock-clause-begins : goal.returns-then-is_nonblock-clause-begins
returns-then-is_nonblock-clause-begins g c = let k = c.look-found.ensures.looked in record {
  begins = λ good. begun _ c.look-found.result _ k.walked.recorded.trace;
  room = (let a = k.room in let b = k.above in let d = k.known in omega arith);
}

pub returns-in_err-wait_ready-clause-begins : goal.returns-in_err-wait_ready-clause-begins
returns-in_err-wait_ready-clause-begins g c = let k = c.look-found.ensures.looked in
    let w = c.in_err-wait_ready.ensures.1 in
    let unseen = found_none c.look-found.result _ (sym c.must_wait.ensures ∙ c.if-must_wait.true) in record {
      begins = λ good. begun_more _ _ _ _ w.did.recorded.trace
          (begun_more _ _ _ _ c.wait.ensures.did.recorded.trace (begun _ c.look-found.result _ k.walked.recorded.trace));
      room = (let a = k.room in let b = k.above in let d = c.wait.ensures.room in let e = w.room in omega arith);
    }

pub returns-then-is_empty-clause-begins : goal.returns-then-is_empty-clause-begins
returns-then-is_empty-clause-begins g c = let k = c.look-found.ensures.looked in
    let w = c.in_ok-wait_ready.ensures.1 in
    let unseen = found_none c.look-found.result _ (sym c.must_wait.ensures ∙ c.if-must_wait.true) in record {
      begins = λ good. begun_more _ _ _ _ w.did.recorded.trace
          (begun_more _ _ _ _ c.wait.ensures.did.recorded.trace (begun _ c.look-found.result _ k.walked.recorded.trace));
      room = (let a = k.room in let b = k.above in let d = c.wait.ensures.room in let e = w.room in omega arith);
    }

pub returns-then-must_wait-clause-begins : goal.returns-then-must_wait-clause-begins
returns-then-must_wait-clause-begins g c = let k = c.look-found.ensures.looked in
    let w = c.in_ok-wait_ready.ensures in let r = c.read_cpu.ensures in
    let unseen = found_none c.look-found.result _ (sym c.must_wait.ensures ∙ c.if-must_wait.true) in record {
      begins = λ good. begun_more _ _ _ _ r.did.recorded.trace (begun_more _ _ _ _ w.1.did.recorded.trace
          (begun_more _ _ _ _ c.wait.ensures.did.recorded.trace (begun _ c.look-found.result _ k.walked.recorded.trace)));
      room = (let a = k.room in let b = k.above in let d = c.wait.ensures.room in let e = w.1.room in let f = r.room in
          let p = w.0 in let q = did_floor _ _ _ r.did in omega arith);
    }

pub returns-then-is_empty-2-clause-begins : goal.returns-then-is_empty-2-clause-begins
returns-then-is_empty-2-clause-begins g c = let k = c.look-found.ensures.looked in record {
  begins = λ good. begun _ c.look-found.result _ k.walked.recorded.trace;
  room = (let a = k.room in let b = k.above in let d = k.known in omega arith);
}

pub returns-clause-begins : goal.returns-clause-begins
returns-clause-begins g c = let k = c.look-found.ensures.looked in let r = c.read_after.ensures in record {
  begins = λ good. begun_more _ _ _ _ r.did.recorded.trace (begun _ c.look-found.result _ k.walked.recorded.trace);
  room = (let a = k.room in let b = k.above in let d = k.known in let e = r.room in
      let q = did_floor _ _ _ r.did in omega arith);
}

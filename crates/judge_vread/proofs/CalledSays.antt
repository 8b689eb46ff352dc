-- If each visit has the inferred entry, a system call that the code recognizes has the answer and bytes that its
-- effects give.
use Rattle.std.proofs.Common.{◌≡◌, ℕ, Bool, true, false, List, [], ◌∷◌, Option, Some, None, refl, sym, subst, ap, ◌∙◌}
use Rattle.std.specs.Prelude.{◌==◌, ◌&&◌, ◌||◌, not, nat_lt, nat_le, if◌then◌else◌}
use Rattle.key_names.specs.declared.entries.Taken.{Taken}
use Rattle.key_names.specs.declared.entries.Taken.TheVariants.{User}
use Rattle.key_names.specs.declared.entries.BaseEntry.{BaseEntry}
use Rattle.key_names.specs.declared.entries.BaseEntry.TheVariants.{Draw, Resume, Interrupt}
use Rattle.key_names.specs.declared.entries.CpuEntry.{CpuEntry}
use Rattle.key_names.specs.declared.entries.CpuEntry.TheVariants.{Read as CpuRead}
use Rattle.key_names.specs.declared.errno.Errno.{Errno}
use Rattle.key_names.specs.declared.errno.Errno.TheVariants.{Again as EAGAIN, Invalid as EINVAL, Interrupted as EINTR}
use Rattle.key_names.specs.declared.events.Answer.{Answer}
use Rattle.key_names.specs.declared.events.Answer.TheVariants.{Ok as Done, Again, Invalid, Interrupted}
use Rattle.key_names.specs.Kernel.Flags.{is_bad, is_nonblock, is_insecure}
use Rattle.key_names.specs.Callers.Calls.{Setting}
use Rattle.key_names.specs.Kernel.Keystream.{keystream}
use Rattle.key_names.specs.Keys.KeyInUse.{taken_bytes}
use Rattle.key_names.specs.Callers.Effects.{Effect, looked, base_serves}
use Rattle.key_names.specs.Callers.Answers.{system_answer, served_bytes, found_unready, was_interrupted, is_interrupt}
use Rattle.key_names.specs.Transcripts.SeenLine.{bytes_or_none}
use Rattle.key_names.specs.Callers.VreadSteps.{answer_after, answer_with, errno_of, answer_of_errno}
use Rattle.key_names.specs.Callers.VreadSteps.{system_line_answer, system_line_shown}
use Rattle.key_names.proofs.Unique.UniqueAttempts.{not_zero}
use Rattle.judge_lines.specs.declared.kind.Kind.TheVariants.{Base as BaseKind, Resumed as ResumedKind}
use Rattle.judge_lines.specs.Kinds.{base_kind}
use Rattle.judge_lines.specs.LaneFacts.{LaneFacts}
use Rattle.judge_lines.specs.Inferred.{AllFill, FillsPart}
use Rattle.judge_lines.specs.declared.inferred.Sign.{Sign}
use Rattle.judge_lines.specs.declared.inferred.Sign.TheVariants.{Saw as saw}
use Rattle.judge_vread.specs.declared.seen.SeenStep.{SeenStep}
use Rattle.judge_vread.specs.declared.seen.SeenStep.TheVariants.{Unready, Ready, Pool, Base, Resumed, Cpu}
use Rattle.judge_vread.specs.declared.system_call.SystemCallResult.{SystemCallResult}
use Rattle.judge_vread.specs.Recipe.{Recipe, bytes_made, no_recipe, user_recipe}
use Rattle.judge_vread.specs.Seen.{ServesBy}
use Rattle.judge_vread.specs.Called.{serving, no_more, cpu_read, unready_read, read, waited, after_look, by_look, called}
use Rattle.judge_vread.proofs.SeenShapes.{Shape, effects_in}

-- `c` has the answer and bytes that `effects` give. A vread's line that reports this system call has the same answer
-- and bytes
pub record Says (flags : ℕ) (effects : List Effect) (c : SystemCallResult) : Type 0 where
  pub answer : c.answer ≡ system_answer flags effects
  pub bytes : bytes_made c.served ≡ served_bytes effects
  pub line : c.answer ≡ system_line_answer (answer_after flags effects)
  pub shown : bytes_or_none (bytes_made c.served) ≡ system_line_shown (answer_after flags effects)

done_says : (flags : ℕ) (effects : List Effect) (recipe : Recipe) → system_answer flags effects ≡ Done →
    bytes_made recipe ≡ served_bytes effects → Says flags effects (serving recipe)
done_says flags effects recipe is bytes =
    let following = ap (λ x. answer_with (errno_of x) effects) is in record {
      answer = sym is;
      bytes = bytes;
      line = sym (ap system_line_answer following);
      shown = ap bytes_or_none bytes ∙ sym (ap system_line_shown following);
    }

-- if `effects` are a system call that fails with `answer` and serves no bytes, a result with `answer` and no bytes is
-- right for them
failed_says : (flags : ℕ) (effects : List Effect) (answer : Answer) (errno : Errno) → errno_of answer ≡ Some errno →
    answer_of_errno errno ≡ answer → system_answer flags effects ≡ answer → served_bytes effects ≡ [] →
    Says flags effects (record { answer = answer; served = no_recipe })
failed_says flags effects answer errno fails back is none =
    let following = ap (λ x. answer_with (errno_of x) effects) is ∙ ap (λ o. answer_with o effects) fails in record {
      answer = sym is;
      bytes = sym none;
      line = sym back ∙ sym (ap system_line_answer following);
      shown = sym (ap system_line_shown following);
    }

pub user_bytes : (key : List ℕ) (n : ℕ) → bytes_made (user_recipe key n) ≡ taken_bytes key (User n)
user_bytes key n = go (nat_lt 32 n)
  where
    go : (b : Bool) → bytes_made (if b then record { front = []; key = keystream key 32 32; from = 64; len = n }
        else record { front = []; key = key; from = 32; len = n })
        ≡ (if b then keystream (keystream key 32 32) 64 n else keystream key 32 n)
    go true = refl
    go false = refl

-- a visit of a CPU that reads for a user serves the bytes of the recipe `user_recipe key n`
cpu_bytes : (key : List ℕ) (n : ℕ) (e : CpuEntry) (serves : List ℕ) (look : ℕ) (refill : Option ℕ) →
    e ≡ CpuRead look refill (User n) → ServesBy key e serves → bytes_made (user_recipe key n) ≡ serves
cpu_bytes key n e serves look refill is by =
    let P : CpuEntry → Type 0 = λ x. ServesBy key x serves in user_bytes key n ∙ sym (subst P is by)

draw_bytes : (key : List ℕ) (n : ℕ) (e : BaseEntry) (serves : List ℕ) (root : Option ℕ) → e ≡ Draw root (User n) →
    serves ≡ base_serves key e → bytes_made (user_recipe key n) ≡ serves
draw_bytes key n e serves root is by = user_bytes key n ∙ sym (by ∙ ap (base_serves key) is)

-- if the flags are good, two tests determine the answer: `u`, whether the system call fails with EAGAIN, and `w`,
-- whether its wait was interrupted
pub answered : (flags : ℕ) (effects : List Effect) (u w : Bool) → is_bad flags ≡ false →
    (found_unready effects && (is_nonblock flags && not (is_insecure flags))) ≡ u → was_interrupted effects ≡ w →
    system_answer flags effects ≡ (if u then Again else (if w then Interrupted else Done))
answered flags effects u w good again stopped =
    ap (λ b. if b then Invalid else (if found_unready effects && (is_nonblock flags && not (is_insecure flags)) then Again
    else (if was_interrupted effects then Interrupted else Done))) good
    ∙ ap (λ b. if b then Again else (if was_interrupted effects then Interrupted else Done)) again
    ∙ ap (λ b. if u then Again else (if b then Interrupted else Done)) stopped

called_at : {flags : ℕ} (ds : List Effect) {c c' : SystemCallResult} → Some c ≡ Some c' → Says flags ds c → Says flags ds c'
called_at {flags = flags} ds {c = c} {c' = c'} e says =
    let is : c ≡ c' = cc in let P : SystemCallResult → Type 0 = λ x. Says flags ds x in subst P is says

module _ (cf : LaneFacts) (set : Setting) (sooner : Taken) (n flags : ℕ) (first : Sign) (good : is_bad flags ≡ false) where
  abbrev Fill : Sign → Sign → List Effect → Type 0
  Fill = AllFill (FillsPart cf set sooner (User n) first)

  -- suppose that the first look of a system call found `g`, and that the system call does not fail with EAGAIN
  module _ (g : ℕ) (on : (found_unready (looked g ∷ []) && (is_nonblock flags && not (is_insecure flags))) ≡ false) where
    goes_done : (ds : List Effect) (recipe : Recipe) → was_interrupted (looked g ∷ ds) ≡ false →
        bytes_made recipe ≡ served_bytes (looked g ∷ ds) → Says flags (looked g ∷ ds) (serving recipe)
    goes_done ds recipe stopped bytes =
        done_says flags (looked g ∷ ds) recipe (answered flags (looked g ∷ ds) false false good on stopped) bytes

    none_says : (seen : List SeenStep) (s : Shape set.cpu seen) (c : SystemCallResult) → no_more Done seen ≡ Some c →
        Says flags (looked g ∷ effects_in set.cpu seen s) c
    none_says [] s c e = called_at (looked g ∷ []) e (goes_done [] no_recipe refl refl)
    none_says (x ∷ xs) s c e = absurd cc

    cpu_says : (a b : Sign) (seen : List SeenStep) (s : Shape set.cpu seen) (c : SystemCallResult) →
        Fill a b (effects_in set.cpu seen s) → cpu_read n seen ≡ Some c → Says flags (looked g ∷ effects_in set.cpu seen s) c
    cpu_says a b (Ready x ∷ Cpu key ∷ []) s c f e =
        let v = s.1.0.v in
        called_at (looked g ∷ effects_in set.cpu (Ready x ∷ Cpu key ∷ []) s) e
        (goes_done (effects_in set.cpu (Ready x ∷ Cpu key ∷ []) s) (user_recipe key n) refl
        (cpu_bytes key n v.entry v.serves x None f.1.0 s.1.0.serves))
    cpu_says a b (Ready x ∷ Base other ∷ Cpu key ∷ []) s c f e =
        let v = s.1.1.0.v in
        called_at (looked g ∷ effects_in set.cpu (Ready x ∷ Base other ∷ Cpu key ∷ []) s) e
        (goes_done (effects_in set.cpu (Ready x ∷ Base other ∷ Cpu key ∷ []) s) (user_recipe key n) refl
        (cpu_bytes key n v.entry v.serves x (Some s.1.0.v.place) f.1.1.0 s.1.1.0.serves))
    cpu_says a b _ s c f e = absurd cc

    unready_says : (a : Sign) (seen : List SeenStep) (s : Shape set.cpu seen) (c : SystemCallResult) →
        Fill a (saw g) (effects_in set.cpu seen s) → unready_read n seen ≡ Some c →
        Says flags (looked g ∷ effects_in set.cpu seen s) c
    unready_says a (Base key ∷ []) s c f e =
        let v = s.0.v in
        called_at (looked g ∷ effects_in set.cpu (Base key ∷ []) s) e
        (goes_done (effects_in set.cpu (Base key ∷ []) s) (user_recipe key n) refl
        (draw_bytes key n v.entry v.serves None f.0 s.0.serves))
    unready_says a (Pool ∷ Base key ∷ []) s c f e =
        let v = s.1.0.v in
        called_at (looked g ∷ effects_in set.cpu (Pool ∷ Base key ∷ []) s) e
        (goes_done (effects_in set.cpu (Pool ∷ Base key ∷ []) s) (user_recipe key n) refl
        (draw_bytes key n v.entry v.serves (Some s.0.place) f.1.0 s.1.0.serves))
    unready_says a (Ready x ∷ seen) s c f e = cpu_says a (saw g) (Ready x ∷ seen) s c f e
    unready_says a _ s c f e = absurd cc

    read_says : (a : Sign) (ready : Bool) (seen : List SeenStep) (s : Shape set.cpu seen) (c : SystemCallResult) →
        Fill a (saw g) (effects_in set.cpu seen s) → read n ready seen ≡ Some c →
        Says flags (looked g ∷ effects_in set.cpu seen s) c
    read_says a true seen s c f e = go (n == 0) e
      where
        go : (b : Bool) → (if b then no_more Done seen else cpu_read n seen) ≡ Some c →
            Says flags (looked g ∷ effects_in set.cpu seen s) c
        go true e = none_says seen s c e
        go false e = cpu_says a (saw g) seen s c f e
    read_says a false seen s c f e = go (n == 0) e
      where
        go : (b : Bool) → (if b then no_more Done seen else unready_read n seen) ≡ Some c →
            Says flags (looked g ∷ effects_in set.cpu seen s) c
        go true e = none_says seen s c e
        go false e = unready_says a seen s c f e

    -- a system call that waited until the core was ready has the answer and bytes that its effects give
    on_says : (a b : Sign) (wait : List ℕ) (seen : List SeenStep) (s : Shape set.cpu (Base wait ∷ Resumed ∷ seen)) (c : SystemCallResult) →
        Fill a b (effects_in set.cpu (Base wait ∷ Resumed ∷ seen) s) → read n true seen ≡ Some c →
        Says flags (looked g ∷ effects_in set.cpu (Base wait ∷ Resumed ∷ seen) s) c
    on_says a b wait seen s c f e = go (n == 0) seen s f e
      where
        cpu : (seen : List SeenStep) (s : Shape set.cpu (Base wait ∷ Resumed ∷ seen)) →
            Fill a b (effects_in set.cpu (Base wait ∷ Resumed ∷ seen) s) → cpu_read n seen ≡ Some c →
            Says flags (looked g ∷ effects_in set.cpu (Base wait ∷ Resumed ∷ seen) s) c
        cpu (Ready x ∷ Cpu key ∷ []) s f e =
            let v = s.1.1.1.0.v in
            called_at (looked g ∷ effects_in set.cpu (Base wait ∷ Resumed ∷ Ready x ∷ Cpu key ∷ []) s) e
            (goes_done (effects_in set.cpu (Base wait ∷ Resumed ∷ Ready x ∷ Cpu key ∷ []) s) (user_recipe key n) refl
            (cpu_bytes key n v.entry v.serves x None f.1.1.1.0 s.1.1.1.0.serves))
        cpu (Ready x ∷ Base other ∷ Cpu key ∷ []) s f e =
            let v = s.1.1.1.1.0.v in
            called_at (looked g ∷ effects_in set.cpu (Base wait ∷ Resumed ∷ Ready x ∷ Base other ∷ Cpu key ∷ []) s) e
            (goes_done (effects_in set.cpu (Base wait ∷ Resumed ∷ Ready x ∷ Base other ∷ Cpu key ∷ []) s)
            (user_recipe key n) refl
            (cpu_bytes key n v.entry v.serves x (Some s.1.1.1.0.v.place) f.1.1.1.1.0 s.1.1.1.1.0.serves))
        cpu _ s f e = absurd cc

        go : (z : Bool) (seen : List SeenStep) (s : Shape set.cpu (Base wait ∷ Resumed ∷ seen)) →
            Fill a b (effects_in set.cpu (Base wait ∷ Resumed ∷ seen) s) →
            (if z then no_more Done seen else cpu_read n seen) ≡ Some c →
            Says flags (looked g ∷ effects_in set.cpu (Base wait ∷ Resumed ∷ seen) s) c
        go true [] s f e =
            called_at (looked g ∷ effects_in set.cpu (Base wait ∷ Resumed ∷ []) s) e
            (goes_done (effects_in set.cpu (Base wait ∷ Resumed ∷ []) s) no_recipe (ap is_interrupt s.1.0.entry)
            (sym s.1.0.serves))
        go true (x ∷ xs) s f e = absurd cc
        go false seen s f e = cpu seen s f e

    stopped : (b : Bool) (e : BaseEntry) → e ≡ (if b then Resume else Interrupt) → base_kind e ≡ BaseKind →
        e ≡ Interrupt
    stopped true e is kind = (let other : ResumedKind ≡ BaseKind = sym (ap base_kind is) ∙ kind in absurd cc)
    stopped false e is kind = is

    waited_says : (a b : Sign) (seen : List SeenStep) (s : Shape set.cpu seen) (c : SystemCallResult) →
        Fill a b (effects_in set.cpu seen s) → waited n seen ≡ Some c → Says flags (looked g ∷ effects_in set.cpu seen s) c
    waited_says a b (Base wait ∷ Base key ∷ []) s c f e =
        let v = s.1.0.v in
        let ds : List Effect = looked g ∷ effects_in set.cpu (Base wait ∷ Base key ∷ []) s in
        let is : v.entry ≡ Interrupt = stopped (nat_le 1 v.before.generation) v.entry f.1.0 s.1.0.kind in
        called_at ds e (failed_says flags ds Interrupted EINTR refl refl
        (answered flags ds false true good on (ap is_interrupt is)) (s.1.0.serves ∙ ap (base_serves key) is))
    waited_says a b (Base wait ∷ Resumed ∷ seen) s c f e = on_says a b wait seen s c f e
    waited_says a b _ s c f e = absurd cc

  never : (x y : Bool) → (x && (y && false)) ≡ false
  never true true = refl
  never true false = refl
  never false y = refl

  never_now : (x i : Bool) → (x && (false && i)) ≡ false
  never_now true i = refl
  never_now false i = refl

  after_says : (g : ℕ) (ready : Bool) → (g == 0) ≡ not ready → (a : Sign) (seen : List SeenStep) (s : Shape set.cpu seen)
      (c : SystemCallResult) → Fill a (saw g) (effects_in set.cpu seen s) → after_look n flags ready seen ≡ Some c →
      Says flags (looked g ∷ effects_in set.cpu seen s) c
  after_says g ready z a seen s c f e = go ready (is_insecure flags) (is_nonblock flags) refl refl refl e
    where
      go : (r i b : Bool) → ready ≡ r → is_insecure flags ≡ i → is_nonblock flags ≡ b →
          (if r || i then read n ready seen else (if b then no_more Again seen else waited n seen)) ≡ Some c →
          Says flags (looked g ∷ effects_in set.cpu seen s) c
      go true i b p q w e =
          read_says g (ap (λ x. x && (is_nonblock flags && not (is_insecure flags))) (z ∙ ap not p)) a ready seen s c f e
      go false true b p q w e =
          read_says g (ap (λ x. (g == 0) && (is_nonblock flags && not x)) q ∙ never (g == 0) (is_nonblock flags))
          a ready seen s c f e
      go false false true p q w e = none seen s e
        where
          found : ((g == 0) && (is_nonblock flags && not (is_insecure flags))) ≡ true
          found = ap (λ x. x && (is_nonblock flags && not (is_insecure flags))) (z ∙ ap not p)
              ∙ ap (λ x. is_nonblock flags && not x) q ∙ ap (λ x. x && true) w

          none : (seen : List SeenStep) (s : Shape set.cpu seen) → no_more Again seen ≡ Some c →
              Says flags (looked g ∷ effects_in set.cpu seen s) c
          none [] s e = called_at (looked g ∷ []) e
              (failed_says flags (looked g ∷ []) Again EAGAIN refl refl
              (answered flags (looked g ∷ []) true false good found refl) refl)
          none (x ∷ xs) s e = absurd cc
      go false false false p q w e =
          waited_says g (ap (λ x. (g == 0) && (x && not (is_insecure flags))) w
          ∙ never_now (g == 0) (not (is_insecure flags))) a (saw g) seen s c f e

pub called_says : (cf : LaneFacts) (set : Setting) (sooner : Taken) (n flags : ℕ) (first a b : Sign) (seen : List SeenStep)
    (s : Shape set.cpu seen) (c : SystemCallResult) →
    AllFill (FillsPart cf set sooner (User n) first) a b (effects_in set.cpu seen s) → called n flags seen ≡ Some c →
    Says flags (effects_in set.cpu seen s) c
called_says cf set sooner n flags first a b seen s c f e = go (is_bad flags) refl seen s f e
  where
    go : (z : Bool) → is_bad flags ≡ z → (seen : List SeenStep) (s : Shape set.cpu seen) →
        AllFill (FillsPart cf set sooner (User n) first) a b (effects_in set.cpu seen s) →
        (if z then no_more Invalid seen else by_look n flags seen) ≡ Some c → Says flags (effects_in set.cpu seen s) c
    go true bad [] s f e =
        called_at [] e (failed_says flags [] Invalid EINVAL refl refl
        (ap (λ x. if x then Invalid else (if found_unready [] && (is_nonblock flags && not (is_insecure flags)) then Again
        else (if was_interrupted [] then Interrupted else Done))) bad) refl)
    go true bad (x ∷ xs) s f e = absurd cc
    go false good (Unready ∷ seen) s f e =
        after_says cf set sooner n flags first good 0 false refl b seen s.1 c f.1 e
    go false good (Ready g ∷ seen) s f e =
        after_says cf set sooner n flags first good g true (not_zero g s.0) b seen s.1 c f.1 e
    go false good _ s f e = absurd cc

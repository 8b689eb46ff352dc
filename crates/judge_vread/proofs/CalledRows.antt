-- The code recognizes seen steps as a system call exactly if the list of their kinds is a row of a system call.
use Rattle.std.proofs.Common.{◌≡◌, ℕ, Bool, true, false, ◌⊎◌, inl, inr, List, [], ◌∷◌, Option, Some, refl, subst}
use Rattle.std.specs.Prelude.{◌==◌, ◌&&◌, ◌||◌, not, map, MatchBool, if◌then◌else◌}
use Rattle.key_names.specs.declared.events.Answer.{Answer}
use Rattle.key_names.specs.declared.events.Answer.TheVariants.{Ok as Done, Again, Invalid}
use Rattle.key_names.specs.Kernel.Flags.{is_bad, is_nonblock, is_insecure}
use Rattle.judge_lines.specs.declared.kind.Kind.{Kind}
use Rattle.judge_lines.specs.declared.kind.Kind.TheVariants.{Unready as UnreadyKind, Ready as ReadyKind}
use Rattle.judge_lines.specs.Rows.{IsDraw, IsCpuRead, IsRead, GoesOn, IsWait, IsAfterLook, IsSystemCall}
use Rattle.judge_vread.specs.declared.seen.SeenStep.{SeenStep}
use Rattle.judge_vread.specs.declared.seen.SeenStep.TheVariants.{Unready, Ready, Pool, Base, Resumed, Cpu}
use Rattle.judge_vread.specs.declared.system_call.SystemCallResult.{SystemCallResult}
use Rattle.judge_vread.specs.Seen.{seen_kind}
use Rattle.judge_vread.specs.Called.{no_more, cpu_read, unready_read, read, waited, after_look, by_look, called}

abbrev kinds : List SeenStep → List Kind
kinds seen = map seen_kind seen

none_row : (answer : Answer) (seen : List SeenStep) (c : SystemCallResult) → no_more answer seen ≡ Some c → kinds seen ≡ []
none_row answer [] c e = refl
none_row answer (x ∷ xs) c e = absurd cc

cpu_row : (n : ℕ) (seen : List SeenStep) (c : SystemCallResult) → cpu_read n seen ≡ Some c → IsCpuRead (kinds seen)
cpu_row n (Ready a ∷ Cpu key ∷ []) c e = inl refl
cpu_row n (Ready a ∷ Base other ∷ Cpu key ∷ []) c e = inr refl
cpu_row n _ c e = absurd cc

draw_row : (n : ℕ) (seen : List SeenStep) (c : SystemCallResult) → unready_read n seen ≡ Some c →
    IsDraw (kinds seen) ⊎ IsCpuRead (kinds seen)
draw_row n (Base key ∷ []) c e = inl (inr refl)
draw_row n (Pool ∷ Base key ∷ []) c e = inl (inl refl)
draw_row n (Ready a ∷ seen) c e = inr (cpu_row n (Ready a ∷ seen) c e)
draw_row n _ c e = absurd cc

read_row : (n : ℕ) (ready : Bool) (seen : List SeenStep) (c : SystemCallResult) → read n ready seen ≡ Some c →
    MatchBool (n == 0) (kinds seen ≡ []) (IsRead ready (kinds seen))
read_row n true seen c e = go (n == 0) e
  where
    go : (b : Bool) → (if b then no_more Done seen else cpu_read n seen) ≡ Some c →
        MatchBool b (kinds seen ≡ []) (IsRead true (kinds seen))
    go true e = none_row Done seen c e
    go false e = inr (cpu_row n seen c e)
read_row n false seen c e = go (n == 0) e
  where
    split : IsDraw (kinds seen) ⊎ IsCpuRead (kinds seen) → IsRead false (kinds seen)
    split (inl row) = inl (refl, row)
    split (inr row) = inr row

    go : (b : Bool) → (if b then no_more Done seen else unready_read n seen) ≡ Some c →
        MatchBool b (kinds seen ≡ []) (IsRead false (kinds seen))
    go true e = none_row Done seen c e
    go false e = split (draw_row n seen c e)

on_row : (n : ℕ) (seen : List SeenStep) (c : SystemCallResult) → read n true seen ≡ Some c → GoesOn n (kinds seen)
on_row n seen c e = go (n == 0) e
  where
    go : (b : Bool) → (if b then no_more Done seen else cpu_read n seen) ≡ Some c →
        MatchBool b (kinds seen ≡ []) (IsCpuRead (kinds seen))
    go true e = none_row Done seen c e
    go false e = cpu_row n seen c e

wait_row : (n : ℕ) (seen : List SeenStep) (c : SystemCallResult) → waited n seen ≡ Some c → IsWait n (kinds seen)
wait_row n (Base wait ∷ Base interrupt ∷ []) c e = inl refl
wait_row n (Base wait ∷ Resumed ∷ seen) c e = inr (kinds seen, refl, on_row n seen c e)
wait_row n _ c e = absurd cc

-- if the code recognizes the steps after the first look of a system call, the list of their kinds is a row for these
-- steps
after_row : (n flags : ℕ) (ready : Bool) (seen : List SeenStep) (c : SystemCallResult) → after_look n flags ready seen ≡ Some c →
    IsAfterLook n flags ready (kinds seen)
after_row n flags ready seen c e = go ready (is_insecure flags) (is_nonblock flags) e
  where
    go : (r i b : Bool) →
        (if r || i then read n ready seen else (if b then no_more Again seen else waited n seen)) ≡ Some c →
        MatchBool (not r && not i) (MatchBool b (kinds seen ≡ []) (IsWait n (kinds seen)))
        (MatchBool (n == 0) (kinds seen ≡ []) (IsRead ready (kinds seen)))
    go true i b e = read_row n ready seen c e
    go false true b e = read_row n ready seen c e
    go false false true e = none_row Again seen c e
    go false false false e = wait_row n seen c e

abbrev Row : ℕ → ℕ → List Kind → Type 0
Row n flags kinds = ((rest : List Kind) × (kinds ≡ UnreadyKind ∷ rest) × IsAfterLook n flags false rest)
    ⊎ ((rest : List Kind) × (kinds ≡ ReadyKind ∷ rest) × IsAfterLook n flags true rest)

pub called_row : (n flags : ℕ) (seen : List SeenStep) (c : SystemCallResult) → called n flags seen ≡ Some c →
    IsSystemCall n flags (kinds seen)
called_row n flags seen c e = go (is_bad flags) seen e
  where
    go : (b : Bool) (seen : List SeenStep) → (if b then no_more Invalid seen else by_look n flags seen) ≡ Some c →
        MatchBool b (kinds seen ≡ []) (Row n flags (kinds seen))
    go true seen e = none_row Invalid seen c e
    go false (Unready ∷ seen) e = inl (kinds seen, refl, after_row n flags false seen c e)
    go false (Ready g ∷ seen) e = inr (kinds seen, refl, after_row n flags true seen c e)
    go false _ e = absurd cc

-- ---- if the kinds of steps are a row of a system call, the code recognizes the steps

abbrev Inferred : Option SystemCallResult → Type 0
Inferred o = (c : SystemCallResult) × (o ≡ Some c)

none_inferred : (answer : Answer) (seen : List SeenStep) → kinds seen ≡ [] → Inferred (no_more answer seen)
none_inferred answer [] row = (_, refl)
none_inferred answer (x ∷ xs) row = absurd cc

cpu_inferred : (n : ℕ) (seen : List SeenStep) → IsCpuRead (kinds seen) → Inferred (cpu_read n seen)
cpu_inferred n (Ready a ∷ Cpu key ∷ []) row = (_, refl)
cpu_inferred n (Ready a ∷ Base other ∷ Cpu key ∷ []) row = (_, refl)
cpu_inferred n _ (inl row) = absurd cc
cpu_inferred n _ (inr row) = absurd cc

draw_inferred : (n : ℕ) (seen : List SeenStep) → IsDraw (kinds seen) ⊎ IsCpuRead (kinds seen) → Inferred (unready_read n seen)
draw_inferred n (Base key ∷ []) row = (_, refl)
draw_inferred n (Pool ∷ Base key ∷ []) row = (_, refl)
draw_inferred n (Ready a ∷ seen) (inr row) = cpu_inferred n (Ready a ∷ seen) row
draw_inferred n _ (inl (inl row)) = absurd cc
draw_inferred n _ (inl (inr row)) = absurd cc
draw_inferred n _ (inr (inl row)) = absurd cc
draw_inferred n _ (inr (inr row)) = absurd cc

read_inferred : (n : ℕ) (ready : Bool) (seen : List SeenStep) →
    MatchBool (n == 0) (kinds seen ≡ []) (IsRead ready (kinds seen)) → Inferred (read n ready seen)
read_inferred n true seen row = go (n == 0) row
  where
    split : IsRead true (kinds seen) → Inferred (cpu_read n seen)
    split (inl row) = absurd (let e = row.0 in cc)
    split (inr row) = cpu_inferred n seen row

    go : (b : Bool) → MatchBool b (kinds seen ≡ []) (IsRead true (kinds seen)) →
        Inferred (if b then no_more Done seen else cpu_read n seen)
    go true row = none_inferred Done seen row
    go false row = split row
read_inferred n false seen row = go (n == 0) row
  where
    split : IsRead false (kinds seen) → Inferred (unready_read n seen)
    split (inl row) = draw_inferred n seen (inl row.1)
    split (inr row) = draw_inferred n seen (inr row)

    go : (b : Bool) → MatchBool b (kinds seen ≡ []) (IsRead false (kinds seen)) →
        Inferred (if b then no_more Done seen else unready_read n seen)
    go true row = none_inferred Done seen row
    go false row = split row

on_inferred : (n : ℕ) (seen : List SeenStep) → GoesOn n (kinds seen) → Inferred (read n true seen)
on_inferred n seen row = go (n == 0) row
  where
    go : (b : Bool) → MatchBool b (kinds seen ≡ []) (IsCpuRead (kinds seen)) →
        Inferred (if b then no_more Done seen else cpu_read n seen)
    go true row = none_inferred Done seen row
    go false row = cpu_inferred n seen row

wait_inferred : (n : ℕ) (seen : List SeenStep) → IsWait n (kinds seen) → Inferred (waited n seen)
wait_inferred n (Base wait ∷ Base interrupt ∷ []) row = (_, refl)
wait_inferred n (Base wait ∷ Resumed ∷ seen) (inr (rest, is, row)) =
    let e : rest ≡ kinds seen = cc in on_inferred n seen (subst (λ ks. GoesOn n ks) e row)
wait_inferred n _ (inl row) = absurd cc
wait_inferred n _ (inr (rest, is, row)) = absurd cc

after_inferred : (n flags : ℕ) (ready : Bool) (seen : List SeenStep) → IsAfterLook n flags ready (kinds seen) →
    Inferred (after_look n flags ready seen)
after_inferred n flags ready seen row = go ready (is_insecure flags) (is_nonblock flags) row
  where
    go : (r i b : Bool) →
        MatchBool (not r && not i) (MatchBool b (kinds seen ≡ []) (IsWait n (kinds seen)))
        (MatchBool (n == 0) (kinds seen ≡ []) (IsRead ready (kinds seen))) →
        Inferred (if r || i then read n ready seen else (if b then no_more Again seen else waited n seen))
    go true i b row = read_inferred n ready seen row
    go false true b row = read_inferred n ready seen row
    go false false true row = none_inferred Again seen row
    go false false false row = wait_inferred n seen row

pub row_called : (n flags : ℕ) (seen : List SeenStep) → IsSystemCall n flags (kinds seen) → Inferred (called n flags seen)
row_called n flags seen row = go (is_bad flags) seen row
  where
    go : (b : Bool) (seen : List SeenStep) → MatchBool b (kinds seen ≡ []) (Row n flags (kinds seen)) →
        Inferred (if b then no_more Invalid seen else by_look n flags seen)
    go true seen row = none_inferred Invalid seen row
    go false (Unready ∷ seen) (inl (rest, is, row)) =
        let e : rest ≡ kinds seen = cc in
        after_inferred n flags false seen (subst (λ ks. IsAfterLook n flags false ks) e row)
    go false (Ready g ∷ seen) (inr (rest, is, row)) =
        let e : rest ≡ kinds seen = cc in
        after_inferred n flags true seen (subst (λ ks. IsAfterLook n flags true ks) e row)
    go false _ (inl (rest, is, row)) = absurd cc
    go false _ (inr (rest, is, row)) = absurd cc

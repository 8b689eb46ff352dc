use Rattle.std.proofs.Common.{◌≡◌, ℕ, suc, ◌+◌, [], ◌∷◌, ◌++◌, List, map, drop, sym, ap, ◌∙◌, arith}
use Rattle.std.specs.Global.{Vec}
use Rattle.key_names.specs.declared.entries.VEntry.{VEntry}
use Rattle.judge_lines.proofs.Fronts.{goes_on, map_last}
use Rattle.audit_keys.specs.Listed.{caller_lists}
use Rattle.audit_keys.specs.declared.entry.Cut.{Cut}
use Rattle.audit_keys.specs.declared.entry.StateEntry.{StateEntry}
use Rattle.audit_keys.specs.StateCut.{all_lists_by, lists_by}
use Rattle.key_audit.specs.Live.{cut_at}
use Rattle.key_audit.proofs.entries.entries_until.Goals as goal

-- the kept entries of all callers from number `c` on are the kept entries of caller `c`, and then those of the callers
-- after `c`
one_caller : (cuts : ℕ → Cut) (c : ℕ) (lists : Vec (Vec StateEntry)) (callers : List (Vec (Vec StateEntry)))
    (entries : List (List VEntry)) → entries ≡ lists_by (cuts c) lists.items →
    all_lists_by cuts c (lists ∷ callers) ≡ (entries ∷ []) ++ all_lists_by cuts (c + 1) callers
one_caller cuts c lists callers entries is =
    let next : suc c ≡ c + 1 = omega arith in
    ap (λ l. l ∷ all_lists_by cuts (suc c) callers) (sym is) ∙ ap (λ n. entries ∷ all_lists_by cuts n callers) next

pub loop-number-preserved : goal.loop-number-preserved
loop-number-preserved c =
    let cuts : ℕ → Cut = cut_at c.args.until in
    let n : ℕ = c.loop-number.number in
    let rest : List (Vec (Vec StateEntry)) = drop (n + 1) c.args.callers.now in
    let new : List (List VEntry) = map (λ (es : Vec VEntry). es.items) c.in_ok-caller_entries_by.field-0.items in
    let here : new ≡ lists_by (cuts n) c.index-callers-number.result.items =
    c.in_ok-caller_entries_by.ensures ∙ ap (λ (cut : Cut). lists_by cut c.deref.result.now) c.cut-cut.ensures
    ∙ ap (λ (ls : List (Vec StateEntry)). lists_by (cuts n) ls) c.deref.ensures.value in
    ap (λ (l : List (Vec (Vec VEntry))). caller_lists l ++ all_lists_by cuts (n + 1) rest) c.in_ok-push.ensures.items
    ∙ ap (λ (l : List (List (List VEntry))). l ++ all_lists_by cuts (n + 1) rest)
    (map_last (λ (l : Vec (Vec VEntry)). map (λ (es : Vec VEntry). es.items) l.items) c.loop-number.entries.items
    c.in_ok-caller_entries_by.field-0)
    ∙ goes_on (λ (xs : List (Vec (Vec StateEntry))). all_lists_by cuts n xs)
    (λ (xs : List (Vec (Vec StateEntry))). all_lists_by cuts (n + 1) xs) c.args.callers.now n
    c.index-callers-number.result (caller_lists c.loop-number.entries.items) (new ∷ []) _ c.loop-number-test.true
    c.index-callers-number.is (one_caller cuts n c.index-callers-number.result rest new here) c.loop-number.invariant

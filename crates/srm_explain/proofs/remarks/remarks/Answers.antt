use Rattle.std.proofs.Common.{Option, Result, Ok, Err, subst, sym, string_bytes}
use Rattle.std.proofs.lemmas.Bool.{false≢true}
use Rattle.std.specs.Prelude.{IfOk}
use Rattle.toml.specs.Data.{Members}
use Rattle.srm_explain.specs.Remarks.{Remarks, RemarksOn}
use Rattle.srm_explain.proofs.remarks.remarks.Goals as goal

-- what follows from what holds of an answer holds of it
follows : {A E : Type 0} (P Q : A → Type 0) (r : Result A E) → ((x : A) → P x → Q x) → IfOk r P → IfOk r Q
follows P Q (Ok x) f h = f x h
follows P Q (Err e) f h = h

pub returns-in-Ok : goal.returns-in-Ok
returns-in-Ok c =
    let text = c.args.text.now in
    let read = subst (λ (o : Option Members). IfOk c.remarks_on.result (λ told. RemarksOn o (string_bytes told)))
    (sym c.in-Ok.ensures.ok.1) c.remarks_on.ensures in
    follows _ (λ told. Remarks text (string_bytes told)) c.remarks_on.result (λ told h u. h) read

pub returns-else-is_memory : goal.returns-else-is_memory
returns-else-is_memory c =
    λ u. subst (λ (o : Option Members). RemarksOn o (string_bytes c.new.result))
    (sym (c.in-Err.ensures.refused (λ k. false≢true (c.if-is_memory.ensures.1 k)) u)) c.new.ensures.bytes

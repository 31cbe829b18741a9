use Rattle.std.proofs.Common.{◌∙◌, ℕ, List, Result, sym, ap, subst, string_bytes}
use Rattle.srm_program.specs.declared.fault.Fault.{Fault}
use Rattle.srm_program.specs.Explained.{FollowsLine, KeepsText}
use Rattle.srm_program.specs.Program.{device, exit_status, RemarksSo, TakesFaultLine, TellsErrors}
use Rattle.srm_program.proofs.GivenTexts.{told_of_given}
use Rattle.srm_program.proofs.program.conclude.Goals as goal

pub returns-in-Ok-clause-told : goal.returns-in-Ok-clause-told
returns-in-Ok-clause-told g c given kept =
    let text = c.args.simulated.text.items in
    let wish = c.args.wish in
    let errors = device (g.E.Outlet.taken c.args.errors.now) (g.E.Outlet.taken c.remark.new.errors)
    (g.E.Outlet.failures c.args.errors.now) (g.E.Outlet.failures c.remark.new.errors) in
    let same = subst (λ (r : Result (Unit {0}) Fault). KeepsText r given text) c.in-Ok.is kept in
    let remarked = subst (λ (l : List ℕ). RemarksSo errors wish.remarks l) (c.deref.ensures.value ∙ same) c.remark.ensures in
    subst (λ (r : Result (Unit {0}) Fault). TellsErrors errors wish.explains wish.remarks (string_bytes wish.message) given r)
    (sym c.in-Ok.is) remarked

pub returns-in-Err-clause-status : goal.returns-in-Err-clause-status
returns-in-Err-clause-status g c = c.status_of.ensures ∙ sym (ap exit_status c.in-Err.is)

pub returns-in-Err-clause-told : goal.returns-in-Err-clause-told
returns-in-Err-clause-told g c given kept =
    let fault = c.in-Err.fault in
    let text = c.args.simulated.text.items in
    let wish = c.args.wish in
    let message = string_bytes wish.message in
    let told = string_bytes c.following-told.result in
    let errors = device (g.E.Outlet.taken c.args.errors.now) (g.E.Outlet.taken c.tell.new.errors)
    (g.E.Outlet.failures c.args.errors.now) (g.E.Outlet.failures c.tell.new.errors) in
    let of_fault = subst (λ (r : Result (Unit {0}) Fault). KeepsText r given text) c.in-Err.is kept in
    let follows = subst (λ (l : List ℕ). FollowsLine wish.explains message l fault told) c.deref-in-Err.ensures.value
    c.following-told.ensures in
    let line = subst (λ (l : List ℕ). TakesFaultLine errors fault l) c.as_str.ensures.value c.tell.ensures in
    subst (λ (r : Result (Unit {0}) Fault). TellsErrors errors wish.explains wish.remarks message given r) (sym c.in-Err.is)
    (told, told_of_given (Unit {0}) wish.explains message given text told fault of_fault follows, line)

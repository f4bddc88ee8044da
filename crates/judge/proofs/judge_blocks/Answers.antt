-- Each code is passed or given, one after the other.
use Rattle.std.proofs.Common.{◌∙◌, sym}
use Rattle.rules.specs.declared.Code.{Code}
use Rattle.laws.proofs.Lists.{pick_true}
use Rattle.calls.proofs.Passed.{passed as no_circle}
use Rattle.judge.proofs.Ways.{handed, given, past, past11, past13, split, circles, too_deep, accepted, none-bad}
use Rattle.judge.proofs.judge_blocks.Goals as goal

pub returns-in_err-pass : goal.returns-in_err-pass
returns-in_err-pass c =
    handed _ _ c.from_residual.ensures.1
    ∙ given Code.SemaphoreNamed _ _ _ _ (split c.args.blocks.now) c.nine.ensures _ c.in_err-pass.ensures

pub returns-in_err-pass-2 : goal.returns-in_err-pass-2
returns-in_err-pass-2 c =
    let past9 = past Code.SemaphoreNamed _ _ _ _ (split c.args.blocks.now) c.nine.ensures _ c.in_ok-pass.ensures in
    handed _ _ c.from_residual-in_err-pass-2.ensures.1
    ∙ given Code.LabelCount _ _ _ _ past9 c.ten-labelled.ensures.bad _ c.in_err-pass-2.ensures

pub returns-in_err-pass-3 : goal.returns-in_err-pass-3
returns-in_err-pass-3 c =
    let past9 = past Code.SemaphoreNamed _ _ _ _ (split c.args.blocks.now) c.nine.ensures _ c.in_ok-pass.ensures in
    let past10 = past Code.LabelCount _ _ _ _ past9 c.ten-labelled.ensures.bad _ c.in_ok-pass-2.ensures in
    handed _ _ c.from_residual-in_err-pass-3.ensures.1
    ∙ given Code.ProcessBlock _ _ _ _ past10 c.process_blocks-processes.ensures.bad _ c.in_err-pass-3.ensures

pub returns-in_err-pass-4 : goal.returns-in_err-pass-4
returns-in_err-pass-4 c =
    let labels = c.ten-labelled.ensures in
    let processes = c.process_blocks-processes.ensures in
    let e = past11 c.args.blocks.now c.nine.ensures c.in_ok-pass.ensures labels.bad c.in_ok-pass-2.ensures processes.bad c.in_ok-pass-3.ensures in
    handed _ _ c.from_residual-in_err-pass-4.ensures.1 ∙ given Code.UnknownLabel _ _ _ _ e c.twelve.ensures _ c.in_err-pass-4.ensures

pub returns-then-thirteen : goal.returns-then-thirteen
returns-then-thirteen c =
    let blocks = c.args.blocks.now in
    let labels = c.ten-labelled.ensures in
    let processes = c.process_blocks-processes.ensures in
    let e = past11 blocks c.nine.ensures c.in_ok-pass.ensures labels.bad c.in_ok-pass-2.ensures processes.bad c.in_ok-pass-3.ensures in
    let left = past Code.UnknownLabel _ _ _ _ e c.twelve.ensures _ c.in_ok-pass-4.ensures in
    rw c.from.ensures (sym (left ∙ pick_true _ _ _ (sym (c.thirteen.ensures blocks labels.begins) ∙ c.if-thirteen.true)))

pub returns-in_err-pass-5 : goal.returns-in_err-pass-5
returns-in_err-pass-5 c =
    let blocks = c.args.blocks.now in
    let labels = c.ten-labelled.ensures in
    let processes = c.process_blocks-processes in
    let own = processes.ensures in
    let e = past11 blocks c.nine.ensures c.in_ok-pass.ensures labels.bad c.in_ok-pass-2.ensures own.bad c.in_ok-pass-3.ensures in
    let left = past13 blocks e c.twelve.ensures c.in_ok-pass-4.ensures (sym (c.thirteen.ensures blocks labels.begins) ∙ c.if-thirteen.false) in
    let table = c.call_table-calls in
    handed _ _ c.from_residual-in_err-pass-5.ensures.1
    ∙ given Code.Circle _ _ _ _ left (circles blocks table.result processes.result own table.ensures _ c.fourteen.ensures) _ c.in_err-pass-5.ensures

pub main_peak-requires-clause-acyclic : goal.main_peak-requires-clause-acyclic
main_peak-requires-clause-acyclic c =
    no_circle c.call_table-calls.result (none-bad Code.Circle c.fourteen.result _ c.in_ok-pass-5.ensures ∙ c.fourteen.ensures)

pub returns-in_err-peak : goal.returns-in_err-peak
returns-in_err-peak c =
    let blocks = c.args.blocks.now in
    let labels = c.ten-labelled.ensures in
    let processes = c.process_blocks-processes in
    let own = processes.ensures in
    let e = past11 blocks c.nine.ensures c.in_ok-pass.ensures labels.bad c.in_ok-pass-2.ensures own.bad c.in_ok-pass-3.ensures in
    let left = past13 blocks e c.twelve.ensures c.in_ok-pass-4.ensures (sym (c.thirteen.ensures blocks labels.begins) ∙ c.if-thirteen.false) in
    let table = c.call_table-calls in
    let f = circles blocks table.result processes.result own table.ensures _ c.fourteen.ensures in
    handed _ _ c.from_residual-in_err-peak.ensures.1
    ∙ too_deep blocks table.result processes.result own table.ensures c.main_peak.result c.main_peak.ensures
    (past Code.Circle _ _ _ _ left f _ c.in_ok-pass-5.ensures) _ _ c.from-2.ensures c.in_err-peak.ensures.value

pub returns : goal.returns
returns c =
    let blocks = c.args.blocks.now in
    let labels = c.ten-labelled.ensures in
    let processes = c.process_blocks-processes in
    let own = processes.ensures in
    let e = past11 blocks c.nine.ensures c.in_ok-pass.ensures labels.bad c.in_ok-pass-2.ensures own.bad c.in_ok-pass-3.ensures in
    let left = past13 blocks e c.twelve.ensures c.in_ok-pass-4.ensures (sym (c.thirteen.ensures blocks labels.begins) ∙ c.if-thirteen.false) in
    let table = c.call_table-calls in
    let f = circles blocks table.result processes.result own table.ensures _ c.fourteen.ensures in
    accepted blocks table.result processes.result own table.ensures c.main_peak.result c.main_peak.ensures
    (past Code.Circle _ _ _ _ left f _ c.in_ok-pass-5.ensures) _ _ c.in_ok-peak.ensures.value

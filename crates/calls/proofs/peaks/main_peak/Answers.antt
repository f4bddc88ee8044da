-- Nine levels decide code 15.
use Rattle.std.proofs.Common.{◌∙◌}
use Rattle.calls.proofs.Levels.{main_peak-right}
use Rattle.calls.proofs.Memo.{memo_none, mapped-same}
use Rattle.calls.proofs.peaks.main_peak.Goals as goal

pub peak-requires-clause-memo : goal.peak-requires-clause-memo
peak-requires-clause-memo c = memo_none _

pub returns : goal.returns
returns c = mapped-same c.peak.result c.map.result c.map.ensures.cases ∙ c.peak.ensures.0 ∙ main_peak-right _ c.requires.acyclic

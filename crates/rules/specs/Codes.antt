-- The numbers of document 01's codes, by the names that the code has for them.
use Rattle.std.specs.Prelude.{ℕ}
use Rattle.rules.specs.declared.Code.{Code}

abbrev pub number : Code → ℕ
number Code.ImageLength = 1
number Code.Kind = 2
number Code.Cut = 3
number Code.Variable = 4
number Code.TooManyBlocks = 5
number Code.EqualLabels = 6
number Code.OwnName = 7
number Code.CallPoint = 8
number Code.SemaphoreNamed = 9
number Code.LabelCount = 10
number Code.ProcessBlock = 11
number Code.UnknownLabel = 12
number Code.NoMain = 13
number Code.Circle = 14
number Code.TooDeep = 15
number Code.SliceLength = 16
number Code.Unfit = 17
number Code.NotLive = 18
number Code.BadDirection = 19
number Code.Children = 20
number Code.Stage = 21
number Code.OtherLabel = 22
number Code.Assertion = 23
number Code.Semaphore = 24
number Code.Address = 25
number Code.HistoryFull = 26
number Code.Held = 27
number Code.NoRoom = 28

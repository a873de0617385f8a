-- The names of broken rules in refusals. A form that is not supported also has the name of its kind.
-- Held against: this project's own reasons.
use Rattle.std.specs.Prelude.{ℕ, List, ◌++◌, codes}
use Rattle.s7_base.specs.declared.reason.Reason.{Reason}
use Rattle.s7_base.specs.declared.reason.Reason.TheVariants as reason
use Rattle.s7_base.specs.declared.reason.Kind.{Kind}
use Rattle.s7_base.specs.declared.reason.Kind.TheVariants as kind

-- the name of a group of forms
abbrev pub kind_name_of : Kind → List ℕ
kind_name_of kind.Timer = codes "Timer"
kind_name_of kind.Counter = codes "Counter"
kind_name_of kind.Real = codes "Real"
kind_name_of kind.MasterControl = codes "MasterControl"
kind_name_of kind.SystemCall = codes "SystemCall"
kind_name_of kind.IndirectBlock = codes "IndirectBlock"
kind_name_of kind.MultiInstance = codes "MultiInstance"
kind_name_of kind.PointerType = codes "PointerType"
kind_name_of kind.StringType = codes "StringType"
kind_name_of kind.DateTime = codes "DateTime"
kind_name_of kind.UserType = codes "UserType"
kind_name_of kind.ComplexParameter = codes "ComplexParameter"
kind_name_of kind.DbLength = codes "DbLength"
kind_name_of kind.NamePointer = codes "NamePointer"
kind_name_of kind.Peripheral = codes "Peripheral"
kind_name_of kind.Accumulators = codes "Accumulators"

-- the name of a broken rule, without the kind of an unsupported form
abbrev pub name_of : Reason → List ℕ
name_of reason.BadToken = codes "BadToken"
name_of reason.BadStatement = codes "BadStatement"
name_of (reason.Unsupported k) = codes "Unsupported"
name_of reason.UnknownName = codes "UnknownName"
name_of reason.UnknownBlock = codes "UnknownBlock"
name_of reason.BadOperand = codes "BadOperand"
name_of reason.BadAddress = codes "BadAddress"
name_of reason.DuplicateBlock = codes "DuplicateBlock"
name_of reason.DuplicateName = codes "DuplicateName"
name_of reason.BadType = codes "BadType"
name_of reason.TooLarge = codes "TooLarge"
name_of reason.DuplicateLabel = codes "DuplicateLabel"
name_of reason.UnknownLabel = codes "UnknownLabel"
name_of reason.BracketOpen = codes "BracketOpen"
name_of reason.BracketMissing = codes "BracketMissing"
name_of reason.TooManyBrackets = codes "TooManyBrackets"
name_of reason.BadJumpList = codes "BadJumpList"
name_of reason.TooManyInstructions = codes "TooManyInstructions"
name_of reason.TooManyParameters = codes "TooManyParameters"
name_of reason.CallCycle = codes "CallCycle"
name_of reason.CallTooDeep = codes "CallTooDeep"
name_of reason.NoBlocks = codes "NoBlocks"
name_of reason.BadSyntax = codes "BadSyntax"
name_of reason.TooDeep = codes "TooDeep"
name_of reason.TypeMismatch = codes "TypeMismatch"

-- a broken rule as a refusal's line shows it
abbrev pub reason_text : Reason → List ℕ
reason_text (reason.Unsupported k) = codes "Unsupported(" ++ kind_name_of k ++ codes ")"
reason_text r = name_of r

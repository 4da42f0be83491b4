-- The faults of the code, as the grammar's kinds, and the words that are printed for them.
use Rattle.std.specs.Prelude.{ℕ, List, Option, Some, None, codes}
use Rattle.page_grammar.specs.Kind as kinds
use Rattle.page_read.specs.declared.faults.PageFault.{PageFault}
use Rattle.page_read.specs.declared.faults.PageKind.{PageKind}
use Rattle.page_read.specs.declared.faults.PageKind.TheVariants.{NotUtf8, BadTag, Unclosed, StrayEnd, BadAttribute, RepeatedAttribute, UnknownReference, UnsupportedElement, TooDeep, TooLong, Full, Memory}

-- the kind in the table, which has none for memory that is out
abbrev pub kind_of : PageKind → Option kinds.Kind
kind_of NotUtf8 = Some kinds.NotUtf8
kind_of BadTag = Some kinds.BadTag
kind_of Unclosed = Some kinds.Unclosed
kind_of StrayEnd = Some kinds.StrayEnd
kind_of BadAttribute = Some kinds.BadAttribute
kind_of RepeatedAttribute = Some kinds.RepeatedAttribute
kind_of UnknownReference = Some kinds.UnknownReference
kind_of UnsupportedElement = Some kinds.UnsupportedElement
kind_of TooDeep = Some kinds.TooDeep
kind_of TooLong = Some kinds.TooLong
kind_of Full = Some kinds.Full
kind_of Memory = None

abbrev pub kind_word : PageKind → List ℕ
kind_word NotUtf8 = codes "not-utf8"
kind_word BadTag = codes "bad-tag"
kind_word Unclosed = codes "unclosed"
kind_word StrayEnd = codes "stray-end"
kind_word BadAttribute = codes "bad-attribute"
kind_word RepeatedAttribute = codes "repeated-attribute"
kind_word UnknownReference = codes "unknown-reference"
kind_word UnsupportedElement = codes "unsupported-element"
kind_word TooDeep = codes "too-deep"
kind_word TooLong = codes "too-long"
kind_word Full = codes "full"
kind_word Memory = codes "memory"

abbrev pub fault_of_memory : PageFault
fault_of_memory = record { at = 0; kind = Memory }

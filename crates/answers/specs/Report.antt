-- What commands put on their second stream: a line where they refuse, and the statistics of a run.
use Rattle.std.specs.Prelude.{◌++◌, ℕ, List, [], codes, decimal}
use Rattle.sim_opts.specs.declared.words.WordWhy.{WordWhy}
use Rattle.sim_opts.specs.declared.words.WordWhy.TheVariants as word
use Rattle.ecoff_load.specs.declared.fault.ObjectWhy.{ObjectWhy}
use Rattle.ecoff_load.specs.declared.fault.ObjectWhy.TheVariants as object
use Rattle.checkpoint.specs.declared.fault.PointWhy.{PointWhy}
use Rattle.checkpoint.specs.declared.fault.PointWhy.TheVariants as point
use Rattle.event_trace.specs.declared.fault.TraceWhy.{TraceWhy}
use Rattle.event_trace.specs.declared.fault.TraceWhy.TheVariants as trace
use Rattle.ss_base.specs.declared.text_fault.TextWhy.{TextWhy}
use Rattle.ss_base.specs.declared.text_fault.TextWhy.TheVariants as text
use Rattle.sim_safe.specs.declared.observer.RunEnd.{RunEnd}
use Rattle.sim_safe.specs.declared.statistics.Statistics.{Statistics}
use Rattle.sim_safe.specs.Statistics.{counts_text}
use Rattle.sim_safe.specs.Ends.{end_text}
use Rattle.answers.specs.declared.answer.Answer.{Answer}
use Rattle.answers.specs.declared.answer.Answer.TheVariants as answer

-- ---- refusals

abbrev pub word_why_text : WordWhy → List ℕ
word_why_text word.NoCommand = codes "NoCommand"
word_why_text word.Command = codes "Command"
word_why_text word.Option = codes "Option"
word_why_text word.NotHere = codes "NotHere"
word_why_text word.Twice = codes "Twice"
word_why_text word.Missing = codes "Missing"
word_why_text word.Number = codes "Number"
word_why_text word.Range = codes "Range"
word_why_text word.Form = codes "Form"
word_why_text word.NoObject = codes "NoObject"
word_why_text word.Extra = codes "Extra"
word_why_text word.TooLong = codes "TooLong"
word_why_text word.Clash = codes "Clash"

abbrev pub object_why_text : ObjectWhy → List ℕ
object_why_text object.Short = codes "Short"
object_why_text object.Magic = codes "Magic"
object_why_text object.Sections = codes "Sections"
object_why_text object.OptHeader = codes "OptHeader"
object_why_text object.TextTwice = codes "TextTwice"
object_why_text object.TextAlign = codes "TextAlign"
object_why_text object.TextSize = codes "TextSize"
object_why_text object.Range = codes "Range"
object_why_text object.NoText = codes "NoText"
object_why_text object.Overlap = codes "Overlap"

abbrev pub point_why_text : PointWhy → List ℕ
point_why_text point.Short = codes "Short"
point_why_text point.Magic = codes "Magic"
point_why_text point.Count = codes "Count"
point_why_text point.Register = codes "Register"
point_why_text point.Ended = codes "Ended"
point_why_text point.Pages = codes "Pages"
point_why_text point.ByteOrder = codes "ByteOrder"
point_why_text point.Order = codes "Order"
point_why_text point.ZeroPage = codes "ZeroPage"
point_why_text point.Extra = codes "Extra"
point_why_text point.OtherOrder = codes "OtherOrder"
point_why_text point.Text = codes "Text"
point_why_text point.OtherText = codes "OtherText"

abbrev pub trace_why_text : TraceWhy → List ℕ
trace_why_text trace.Short = codes "Short"
trace_why_text trace.Magic = codes "Magic"
trace_why_text trace.Count = codes "Count"
trace_why_text trace.ByteOrder = codes "ByteOrder"
trace_why_text trace.Order = codes "Order"
trace_why_text trace.Kind = codes "Kind"
trace_why_text trace.Many = codes "Many"
trace_why_text trace.Pad = codes "Pad"
trace_why_text trace.Exit = codes "Exit"
trace_why_text trace.Register = codes "Register"
trace_why_text trace.Block = codes "Block"
trace_why_text trace.Extra = codes "Extra"
trace_why_text trace.OtherOrder = codes "OtherOrder"

abbrev pub text_why_text : TextWhy → List ℕ
text_why_text text.Char = codes "Char"
text_why_text text.Option = codes "Option"
text_why_text text.NotHere = codes "NotHere"
text_why_text text.Twice = codes "Twice"
text_why_text text.Missing = codes "Missing"
text_why_text text.Number = codes "Number"
text_why_text text.Range = codes "Range"
text_why_text text.Form = codes "Form"
text_why_text text.Extra = codes "Extra"
text_why_text text.Mnemonic = codes "Mnemonic"
text_why_text text.Section = codes "Section"
text_why_text text.Label = codes "Label"
text_why_text text.Layout = codes "Layout"

-- a line with words or a kind of file, a place in it, and a reason
abbrev pub refusal_line : List ℕ → ℕ → List ℕ → List ℕ
refusal_line kind at why = codes "pisa: " ++ kind ++ codes " " ++ decimal at ++ codes " " ++ why ++ codes "\n"

-- the line of a file that is too long
abbrev pub long_line : List ℕ → List ℕ
long_line name = codes "pisa: too-long " ++ name ++ codes "\n"

-- the line of an answer that refuses words or a file; no other answer has one
abbrev pub fault_line : Answer → List ℕ
fault_line (answer.Words at why) = refusal_line (codes "words") at (word_why_text why)
fault_line (answer.Object at why) = refusal_line (codes "object") at (object_why_text why)
fault_line (answer.Point at why) = refusal_line (codes "point") at (point_why_text why)
fault_line (answer.Trace at why) = refusal_line (codes "trace") at (trace_why_text why)
fault_line (answer.Text line why) = refusal_line (codes "text") line (text_why_text why)
fault_line (answer.TooLong name) = long_line name
fault_line (answer.Exited code) = []
fault_line answer.Made = []
fault_line (answer.Stopped why pc icnt) = []
fault_line answer.Budget = []
fault_line (answer.NotBuilt what) = []

-- ---- statistics

-- the statistics of a run that skipped so many steps: the counts of the others, and how it ended at an address after some instructions
unfoldable pub statistics_text : ℕ → Statistics → RunEnd → ℕ → ℕ → List ℕ
statistics_text skipped counts end pc icnt = counts_text skipped counts ++ codes "sim_end " ++ end_text end pc icnt ++ codes "\n"

-- For every cause of a refusal: the layer that asked, and the number of the question. Assumes nothing.
use Rattle.std.specs.Prelude.{ℕ}
use Rattle.fault.specs.declared.cause.Cause.{Cause}
use Rattle.fault.specs.declared.cause.Cause.TheVariants.{YearOutOfRange, RegisterFull, PowerOutOfRange, PlantCodeUnknown, PlugInPowerExceeded, SitePowerExceeded, YearNotSet, NoSupportedPlant, OrdinaryPowerExceeded, DraftUnfit, ContractNumberZero, ContractNumberUsed, ContractsFull, NoContract, NotNextQuarter, AmountTooLarge, YearIncomplete, TakenAmountTooLarge, OptionFull, QuarterPastSpan, RegimeUnknown, HeaderCutOff, ContentCutOff, TagUnknown, LengthWrong, OutOfOrder, BytesAfterEnd, OptionUnknown}
use Rattle.fault.specs.declared.cause.Layer.{Layer}
use Rattle.fault.specs.declared.cause.Layer.TheVariants as layers

abbrev pub code : Layer → ℕ
code layers.File = 1
code layers.Register = 2
code layers.Account = 3
code layers.Option = 4
code layers.Calendar = 5

-- a layer with a question's number
abbrev pub question : Cause → Layer × ℕ
-- setting the year: is it from 2025 to 2099
question YearOutOfRange = (layers.Register, 11)
-- adding a plant: are there fewer than 8
question RegisterFull = (layers.Register, 12)
-- is its power from 1 to 200,000 W
question PowerOutOfRange = (layers.Register, 13)
-- are its kind, its marketing and its regime in range
question PlantCodeUnknown = (layers.Register, 14)
-- is all plug-in power with it at most 2,000 W
question PlugInPowerExceeded = (layers.Register, 15)
-- is all power with it at most 200,000 W
question SitePowerExceeded = (layers.Register, 16)
-- fitness: is the year set
question YearNotSet = (layers.Register, 17)
-- is there a supported plant
question NoSupportedPlant = (layers.Register, 18)
-- is the ordinary power within the option's limit
question OrdinaryPowerExceeded = (layers.Register, 19)
-- every call of an opened or closed year but closing: was the draft fit
question DraftUnfit = (layers.Account, 21)
-- beginning a contract: is its number above 0
question ContractNumberZero = (layers.Account, 22)
-- is its number unused
question ContractNumberUsed = (layers.Account, 23)
-- are there fewer than four
question ContractsFull = (layers.Account, 24)
-- entering a quarter: is a contract begun
question NoContract = (layers.Account, 25)
-- is it the next quarter of this year
question NotNextQuarter = (layers.Account, 26)
-- are the four amounts up to 50,000 Wh
question AmountTooLarge = (layers.Account, 27)
-- a statement of a closed year: is every quarter accepted
question YearIncomplete = (layers.Account, 29)
-- an option taking a quarter: are the four amounts up to 50,000 Wh
question TakenAmountTooLarge = (layers.Option, 27)
-- are fewer than 35,136 quarters held
question OptionFull = (layers.Option, 30)
-- a calendar: is the quarter below the span
question QuarterPastSpan = (layers.Calendar, 28)
-- is the regime up to 7
question RegimeUnknown = (layers.Calendar, 31)
-- a file: are three bytes left
question HeaderCutOff = (layers.File, 41)
-- is the content all there
question ContentCutOff = (layers.File, 42)
-- is the tag known
question TagUnknown = (layers.File, 43)
-- is the length right for the tag
question LengthWrong = (layers.File, 44)
-- is the record allowed here
question OutOfOrder = (layers.File, 45)
-- is there nothing after the end
question BytesAfterEnd = (layers.File, 46)
-- is the option byte 0 or 1
question OptionUnknown = (layers.File, 47)

abbrev pub layer : Cause → Layer
layer c = (question c).0

abbrev pub number : Cause → ℕ
number c = (question c).1

-- What each call of an opened year answers, and what it leaves. Assumes nothing.
use Rattle.std.specs.Prelude.{◌≡◌, ℕ, Bool, true, false, cond, not, ◌&&◌, List, [], ◌∷◌, length, map, is_ok, is_some, None, Ok, Err, Result, ◌==◌, nat_lt, slice_index_or}
use Rattle.std.specs.List.{range_with_len}
use Rattle.std.specs.Option.{unwrap_or}
use Rattle.fault.specs.declared.Fault.{Fault}
use Rattle.fault.specs.declared.cause.Cause.TheVariants.{DraftUnfit, ContractNumberZero, ContractNumberUsed, ContractsFull, NoContract, NotNextQuarter, AmountTooLarge, QuarterPastSpan}
use Rattle.fault.specs.Questions.{Answer, asked}
use Rattle.calendar.specs.declared.value_calendar.ValueCalendar.{Ghosts as Calendar}
use Rattle.options.specs.declared.settlement_option.SettlementOption.{Ghosts as Meaning}
use Rattle.options.specs.declared.amounts.Amounts.{Amounts}
use Rattle.options.specs.Quarters.{Started, allowed, taking}
use Rattle.site.specs.declared.draft.Draft.{Draft}
use Rattle.site.specs.Drafts.{fitness}
use Rattle.site.specs.declared.register.Register.{Register}
use Rattle.site.specs.Plants.{no_plant, site_power_of}
use Rattle.site.specs.Years.{quarters_in}
use Rattle.account.specs.declared.year.Opened.{Opened}
use Rattle.account.specs.declared.year.Closed.{Closed}
use Rattle.account.specs.Ledgers.{Fresh, Begun, Booked}
use Rattle.account.specs.SupplyContracts.{used}

-- the year to settle; 0 where none was set, and such a year is unfit
abbrev pub year_of : Draft → ℕ
year_of d = unwrap_or d.year 0

module _ {C : Type 0} (calendar : Calendar C) (c : C) where
  -- whether the calendar answers for every plant: its span has the quarter
  abbrev pub answers : Register → ℕ → Bool
  answers g quarter = cond (nat_lt 0 (length g.plants.items)) (nat_lt quarter (calendar.span c)) true

  -- a place is marked if the calendar's set has its plant's regime at this quarter
  abbrev pub mark : Register → ℕ → ℕ → Bool
  mark g quarter place = calendar.above c (slice_index_or g.plants.items place no_plant).regime quarter

  -- the marks of all eight places; a place without a plant is not marked
  abbrev pub marks : Register → ℕ → List Bool
  marks g quarter = map (λ place. cond (nat_lt place (length g.plants.items)) (mark g quarter place) false) (range_with_len 0 8)

  abbrev pub marking : Register → ℕ → Result (List Bool) Fault
  marking g quarter = asked quarter ((answers g quarter, QuarterPastSpan) ∷ []) (Ok (marks g quarter))

module _ {O : Type 0} where
  -- opening: the option starts with the power of all plants
  pub record Opens (meaning : Meaning O) (d : Draft) (a : Opened O) : Type 0 where
    pub draft : a.draft ≡ d
    -- the year to settle, if the draft is fit
    pub year : a.year ≡ cond (is_ok (fitness meaning.limit d)) d.year None
    pub ledger : Fresh a.ledger
    pub option : Started (site_power_of d.register.plants.items) (meaning.sums a.option)

  -- the questions of a contract that is to begin
  abbrev pub beginning : Opened O → ℕ → Answer
  beginning a number = asked number (
      (is_some a.year, DraftUnfit)
      ∷ (nat_lt 0 number, ContractNumberZero)
      ∷ (not (used number a.ledger.contracts.items), ContractNumberUsed)
      ∷ (nat_lt (length a.ledger.contracts.items) 4, ContractsFull)
      ∷ []) (Ok tt)

  pub record ContractBegun (a : Opened O) (number : ℕ) (b : Opened O) : Type 0 where
    pub draft : b.draft ≡ a.draft
    pub year : b.year ≡ a.year
    pub ledger : Begun a.ledger number b.ledger
    pub option : b.option ≡ a.option

  abbrev pub Begins : Opened O → ℕ → Answer → Opened O → Type 0
  Begins a number r b = (r ≡ beginning a number) × elim r [ Ok _ ↦ ContractBegun a number b | Err _ ↦ a ≡ b ]

  module _ {C : Type 0} (meaning : Meaning O) (calendar : Calendar C) (c : C) where
    -- the questions of a quarter that is to be entered, and then those of the option
    abbrev pub entering : Opened O → ℕ → Amounts → Answer
    entering a quarter amounts = asked quarter (
        (is_some a.year, DraftUnfit)
        ∷ (nat_lt 0 (length a.ledger.contracts.items), NoContract)
        ∷ (quarter == a.ledger.entered && nat_lt quarter (quarters_in (year_of a.draft)), NotNextQuarter)
        ∷ (allowed amounts, AmountTooLarge)
        ∷ (answers calendar c a.draft.register quarter, QuarterPastSpan)
        ∷ []) (taking (meaning.sums a.option) amounts)

    -- the option took all four amounts as entered, with exactly the calendar's marks, and the draw went to the contract begun last
    pub record Entered (a : Opened O) (quarter : ℕ) (amounts : Amounts) (b : Opened O) : Type 0 where
      pub draft : b.draft ≡ a.draft
      pub year : b.year ≡ a.year
      pub ledger : Booked a.ledger amounts.draw b.ledger
      pub option : meaning.takes a.option amounts (marks calendar c a.draft.register quarter) b.option

    abbrev pub Enters : Opened O → ℕ → Amounts → Answer → Opened O → Type 0
    Enters a quarter amounts r b = (r ≡ entering a quarter amounts) × elim r [ Ok _ ↦ Entered a quarter amounts b | Err _ ↦ a ≡ b ]

  -- a year is complete when every quarter of it was accepted
  abbrev pub complete : Opened O → Bool
  complete a = a.ledger.entered == quarters_in (year_of a.draft)

  -- closing keeps everything
  abbrev pub Closes : Opened O → Closed O → Type 0
  Closes a c = c.last ≡ a

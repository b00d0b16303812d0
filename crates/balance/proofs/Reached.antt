-- What an account holds after any run that leads to it. Assumes nothing.
use Rattle.std.proofs.Common.{◌≡◌, ℕ, ◌+◌, ◌<◌, Bool, true, false, cond, ltb, List, [], ◌∷◌, length, get_or, is_some, Ok, Err, sym, refl, ap, ◌∙◌, subst, arith}
use Rattle.std.proofs.lemmas.List.FromFn.{get_or-map-range_with_len}
use Rattle.std.proofs.lemmas.Bool.{cond-true, lt-ltb, ltb-true}
use Rattle.fault.specs.Questions.{Answer}
use Rattle.calendar.specs.declared.value_calendar.ValueCalendar.{Ghosts as Calendar}
use Rattle.options.specs.declared.amounts.Amounts.{Amounts}
use Rattle.options.specs.declared.settlement_option.SettlementOption.{Ghosts as Meaning}
use Rattle.options.specs.Quarters.{Sums, Started, Added}
use Rattle.site.specs.declared.draft.Draft.{Draft}
use Rattle.site.specs.declared.plant.PlantEntry.{PlantEntry}
use Rattle.site.specs.declared.register.Register.{Register}
use Rattle.site.specs.Drafts.{Sets, AddsPlant}
use Rattle.site.specs.Plants.{no_plant, site_power_of}
use Rattle.account.specs.declared.ledger.Ledger.{Ledger}
use Rattle.account.specs.declared.year.Opened.{Opened}
use Rattle.account.specs.Calls.{mark, marks, Opens, Begins, Enters}
use Rattle.account.specs.Ledgers.{Fresh}
use Rattle.account.specs.SupplyContracts.{no_contract, draw_of}
use Rattle.balance.specs.Runs.{Call, Account, drafted, opened, closed, Leads, begins_blank, sets, adds, checks, opens, begins, enters, closes, states_interim, states_finally, adding_plant, beginning_contract, entering_quarter}
use Rattle.balance.specs.Brought.{Reading, plants, contracts, readings, fed_in, drawn, marked_for}
use Rattle.balance.proofs.Asked.{got_yes}
use Rattle.balance.proofs.Held.{Registered, registered_more, Kept, kept_begun, kept_booked}
use Rattle.balance.proofs.Powered.{fit_power}

-- the option's sums are those of the accepted quarters
pub record Summed (above : ℕ → ℕ → Bool) (rs : List Reading) (g : Register) (s : Sums) : Type 0 where
  pub draw : s.draw ≡ drawn rs
  pub feed_in : s.feed_in ≡ fed_in rs
  pub marked : (k : ℕ) → k < length g.plants.items → s.marked k ≡ marked_for above (get_or g.plants.items k no_plant).regime rs

set_on : (ps : List PlantEntry) (d e : Draft) (year : ℕ) (r : Answer) → Sets d year r e → Registered ps d.register → Registered ps e.register
set_on ps d e year (Ok _) s h = subst (Registered ps) (sym s.1.register) h
set_on ps d e year (Err _) s h = subst (λ (x : Draft). Registered ps x.register) s.1 h

add_on : (calls : List Call) (d e : Draft) (plant : PlantEntry) (r : Answer) → AddsPlant d plant r e → Registered (plants calls) d.register → Registered (plants (adding_plant plant r ∷ calls)) e.register
add_on calls d e plant (Ok _) s h = registered_more (plants calls) d.register e.register plant s.1.register h
add_on calls d e plant (Err _) s h = subst (λ (x : Draft). Registered (plants calls) x.register) s.1 h

fresh_kept : (l : Ledger) → Fresh l → Kept [] [] l
fresh_kept l fresh = record {
  begun = ap length fresh.contracts;
  numbers = λ k inside. absurd (omega (arith, ap length fresh.contracts));
  draws = λ k. ap (λ cs. (get_or cs k no_contract).draw) fresh.contracts;
  all = ap draw_of fresh.contracts;
}

module _ {O C : Type 0} (meaning : Meaning O) (calendar : Calendar C) (c : C)
    (adds_up : (o p : O) (a : Amounts) (ms : List Bool) → meaning.takes o a ms p → Added (meaning.sums o) a ms (meaning.sums p)) where
  -- a fit year's account, against the plants, contracts and quarters that were accepted
  pub record Held (ps : List PlantEntry) (cs : List ℕ) (rs : List Reading) (a : Opened O) : Type 0 where
    pub registered : Registered ps a.draft.register
    pub kept : Kept cs rs a.ledger
    pub summed : Summed (calendar.above c) rs a.draft.register (meaning.sums a.option)
    pub powered : is_some a.year ≡ true → 0 < site_power_of a.draft.register.plants.items

  abbrev HeldAfter : List Call → Opened O → Type 0
  HeldAfter calls a = Held (plants calls) (contracts calls) (readings calls) a

  started : (power : ℕ) (g : Register) (s : Sums) → Started power s → Summed (calendar.above c) [] g s
  started power g s start = record { draw = start.draw; feed_in = start.feed_in; marked = λ k inside. start.marked k (omega (arith, g.held)) }

  open_on : (calls : List Call) (d : Draft) (a : Opened O) → Opens meaning d a → Registered (plants calls) d.register → contracts calls ≡ [] → readings calls ≡ [] → HeldAfter calls a
  open_on calls d a o h none quiet =
      let held : Held (plants calls) [] [] a = record {
        registered = subst (λ (x : Draft). Registered (plants calls) x.register) (sym o.draft) h;
        kept = fresh_kept a.ledger o.ledger;
        summed = started _ a.draft.register (meaning.sums a.option) o.option;
        powered = λ settled. subst (λ (x : Draft). 0 < site_power_of x.register.plants.items) (sym o.draft) (fit_power meaning.limit d (ap is_some (sym o.year) ∙ settled));
      } in
      subst (λ cs. Held (plants calls) cs (readings calls) a) (sym none) (subst (λ rs. Held (plants calls) [] rs a) (sym quiet) held)

  begin_on : (calls : List Call) (a b : Opened O) (number : ℕ) (r : Answer) → Begins a number r b → HeldAfter calls a → HeldAfter (beginning_contract number r ∷ calls) b
  begin_on calls a b number (Ok _) (is, begun) h =
      let summed : Summed (calendar.above c) (readings calls) a.draft.register (meaning.sums b.option) =
      subst (λ (o : O). Summed (calendar.above c) (readings calls) a.draft.register (meaning.sums o)) (sym begun.option) h.summed in
      record {
        registered = subst (λ (d : Draft). Registered (plants calls) d.register) (sym begun.draft) h.registered;
        kept = kept_begun (contracts calls) (readings calls) a.ledger b.ledger h.kept number begun.ledger;
        summed = subst (λ (d : Draft). Summed (calendar.above c) (readings calls) d.register (meaning.sums b.option)) (sym begun.draft) summed;
        powered = λ settled. subst (λ (d : Draft). 0 < site_power_of d.register.plants.items) (sym begun.draft) (h.powered (ap is_some (sym begun.year) ∙ settled));
      }
  begin_on calls a b number (Err _) (is, same) h = subst (HeldAfter calls) same h

  -- a place of a plant is marked as the calendar says of its regime
  marked_place : (g : Register) (quarter k : ℕ) → k < length g.plants.items → get_or (marks calendar c g quarter) k false ≡ mark calendar c g quarter k
  marked_place g quarter k inside =
      get_or-map-range_with_len (λ place. cond (ltb place (length g.plants.items)) (mark calendar c g quarter place) false) 0 8 k k false (omega (arith, g.held)) (omega arith)
      ∙ cond-true (ltb k (length g.plants.items)) (mark calendar c g quarter k) false (lt-ltb k (length g.plants.items) inside)

  summed_more : (rs : List Reading) (g : Register) (s t : Sums) (quarter contract : ℕ) (amounts : Amounts) → Added s amounts (marks calendar c g quarter) t
      → Summed (calendar.above c) rs g s → Summed (calendar.above c) (record { quarter = quarter; amounts = amounts; contract = contract } ∷ rs) g t
  summed_more rs g s t quarter contract amounts added h = record {
    draw = omega (arith, added.draw, h.draw);
    feed_in = omega (arith, added.feed_in, h.feed_in);
    marked = λ k inside.
        added.marked k (omega (arith, g.held))
        ∙ ap (λ b. s.marked k + cond b amounts.feed_in 0) (marked_place g quarter k inside)
        ∙ ap (λ n. n + cond (mark calendar c g quarter k) amounts.feed_in 0) (h.marked k inside);
  }

  enter_on : (calls : List Call) (a b : Opened O) (quarter : ℕ) (amounts : Amounts) (r : Answer) → Enters meaning calendar c a quarter amounts r b → HeldAfter calls a → HeldAfter (entering_quarter quarter amounts r ∷ calls) b
  enter_on calls a b quarter amounts (Ok _) (is, entered) h =
      let fit = got_yes (is_some a.year) _ _ is in
      let begun = got_yes (ltb 0 (length a.ledger.contracts.items)) _ _ fit.1 in
      let reading : Reading = record { quarter = quarter; amounts = amounts; contract = length (contracts calls) } in
      let summed : Summed (calendar.above c) (reading ∷ readings calls) a.draft.register (meaning.sums b.option) =
      summed_more (readings calls) a.draft.register (meaning.sums a.option) (meaning.sums b.option) quarter (length (contracts calls)) amounts (adds_up a.option b.option amounts _ entered.option) h.summed in
      record {
        registered = subst (λ (d : Draft). Registered (plants calls) d.register) (sym entered.draft) h.registered;
        kept = kept_booked (contracts calls) (readings calls) a.ledger b.ledger h.kept quarter amounts (ltb-true 0 (length a.ledger.contracts.items) begun.0) entered.ledger;
        summed = subst (λ (d : Draft). Summed (calendar.above c) (reading ∷ readings calls) d.register (meaning.sums b.option)) (sym entered.draft) summed;
        powered = λ settled. subst (λ (d : Draft). 0 < site_power_of d.register.plants.items) (sym entered.draft) (h.powered (ap is_some (sym entered.year) ∙ settled));
      }
  enter_on calls a b quarter amounts (Err _) (is, same) h = subst (HeldAfter calls) same h

  abbrev pub Reached : List Call → Account O → Type 0
  Reached calls (drafted d) = Registered (plants calls) d.register × (contracts calls ≡ []) × (readings calls ≡ [])
  Reached calls (opened a) = HeldAfter calls a
  Reached calls (closed z) = HeldAfter calls z.last

  pub reached : {calls : List Call} {account : Account O} → Leads meaning calendar c calls account → Reached calls account
  reached (begins_blank blank) = (record { count = ap length blank.register.plants; each = λ k inside. absurd (omega (arith, ap length blank.register.plants)) }, refl, refl)
  reached (sets {calls} l s) = let h = reached l in (set_on (plants calls) _ _ _ _ s h.0, h.1, h.2)
  reached (adds {calls} l s) = let h = reached l in (add_on calls _ _ _ _ s h.0, h.1, h.2)
  reached (checks limit l e) = reached l
  reached (opens {calls} l o) = let h = reached l in open_on calls _ _ o h.0 h.1 h.2
  reached (begins {calls} l b) = begin_on calls _ _ _ _ b (reached l)
  reached (enters {calls} l e) = enter_on calls _ _ _ _ _ e (reached l)
  reached (closes {calls} l same) = subst (HeldAfter calls) (sym same) (reached l)
  reached (states_interim before l s) = reached l
  reached (states_finally before l s) = reached l

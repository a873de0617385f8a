-- What holds of what is written and left.
use Rattle.std.proofs.Common.{◌≡◌, ℕ, Bool, true, false, cond, List, [], ◌∷◌, ◌++◌, append_assoc, append-nil, refl, sym, ap, ◌∙◌}
use Rattle.st_tree.specs.declared.program.Stmt.{Stmt}
use Rattle.st_tree.specs.declared.program.Stmt.TheVariants as stmt
use Rattle.st_tree.specs.declared.expr.Expr.{Expr}
use Rattle.region_laws.specs.Regions.{Place, Region, again, choice, ended, fork, leaves, node, off, quit, text_of}
use Rattle.plan_texts.specs.declared.leads.Lead.{Lead}
use Rattle.plan_texts.specs.declared.leads.Lead.TheVariants as lead
use Rattle.plan_texts.specs.inner.Leads.{Adds, led_text}

-- Choices

pub where_true : (old new : List Stmt) (to : Lead) (t : Bool) (x y rest : Region) → t ≡ true → Adds old new to x rest
    → Adds old new to (cond t x y) rest
where_true old new to true x y rest e h = h
where_true old new to false x y rest e h = absurd cc

pub where_false : (old new : List Stmt) (to : Lead) (t : Bool) (x y rest : Region) → t ≡ false → Adds old new to y rest
    → Adds old new to (cond t x y) rest
where_false old new to true x y rest e h = absurd cc
where_false old new to false x y rest e h = h

-- Ends

-- nothing is written: the rest is left
pub onward : (out : List Stmt) (rest : Region) → Adds out out lead.Onward rest rest
onward out rest = record { text = λ next. refl; falls = refl }

-- nothing is left
pub off_end : (out : List Stmt) (rest : Region) → Adds out out lead.Off off rest
off_end out rest = record { text = λ next. refl; falls = refl }

pub exits : (out : List Stmt) (rest : Region) → Adds out (out ++ stmt.Exit ∷ []) lead.Out leaves rest
exits out rest = record { text = λ next. sym (append-nil (out ++ stmt.Exit ∷ [])); falls = refl }

pub continues : (out : List Stmt) (rest : Region) → Adds out (out ++ stmt.Continue ∷ []) lead.Out again rest
continues out rest = record { text = λ next. sym (append-nil (out ++ stmt.Continue ∷ [])); falls = refl }

pub returns : (out : List Stmt) (rest : Region) → Adds out (out ++ stmt.Return ∷ []) lead.Out ended rest
returns out rest = record { text = λ next. sym (append-nil (out ++ stmt.Return ∷ [])); falls = refl }

-- One after another

pub then_adds : (old mid new : List Stmt) (to : Lead) (whole left rest : Region) → Adds old mid lead.Onward whole left → Adds mid new to left rest
    → Adds old new to whole rest
then_adds old mid new to whole left rest first second = record {
  text = λ next. first.text next ∙ second.text next;
  falls = first.falls ∙ second.falls;
}

-- steps are written, and what follows them is left
pub behind_steps : (old steps new : List Stmt) (to : Lead) (more rest : Region) → Adds (old ++ steps) new to more rest
    → Adds old new to (node steps more) rest
behind_steps old steps new to more rest h = record {
  text = λ next. sym (append_assoc old steps (text_of next more)) ∙ h.text next;
  falls = h.falls;
}

-- an IF is written, and what follows it is left
pub behind_fork : (old new : List Stmt) (to : Lead) (e : Expr) (there behind : Region) (bodies others : List Stmt) (join : Place) (more rest : Region)
    → ((next : ℕ) → bodies ≡ text_of next there) → ((next : ℕ) → others ≡ text_of next behind)
    → Adds (old ++ choice e bodies others ∷ []) new to more rest → Adds old new to (fork [] e there behind join more) rest
behind_fork old new to e there behind bodies others join more rest f s h = record {
  text = λ next.
      ap (λ (x : List Stmt). old ++ choice e x (text_of next behind) ∷ text_of next more) (sym (f next))
      ∙ ap (λ (x : List Stmt). old ++ choice e bodies x ∷ text_of next more) (sym (s next))
      ∙ sym (append_assoc old (choice e bodies others ∷ []) (text_of next more)) ∙ h.text next;
  falls = h.falls;
}

pub behind_quit : (old new : List Stmt) (to : Lead) (e : Expr) (more rest : Region) → Adds (old ++ choice e (stmt.Return ∷ []) [] ∷ []) new to more rest
    → Adds old new to (quit [] e more) rest
behind_quit old new to e more rest h = record {
  text = λ next. sym (append_assoc old (choice e (stmt.Return ∷ []) [] ∷ []) (text_of next more)) ∙ h.text next;
  falls = h.falls;
}

-- a list of its own has the text of what it was begun for
pub led_nothing : (to : Lead) → led_text to [] ≡ []
led_nothing lead.Onward = refl
led_nothing lead.Off = refl
led_nothing lead.Out = refl

pub alone : (new : List Stmt) (to : Lead) (whole : Region) → Adds [] new to whole off → (next : ℕ) → new ≡ text_of next whole
alone new to whole h next = sym (append-nil new) ∙ ap (λ (x : List Stmt). new ++ x) (sym (led_nothing to)) ∙ sym (h.text next)

-- a part is written to its end
pub closed : (old new : List Stmt) (to : Lead) (whole rest : Region) → Adds old new to whole rest → (next : ℕ) → led_text to (text_of next rest) ≡ []
    → new ≡ old ++ text_of next whole
closed old new to whole rest h next e = sym (append-nil new) ∙ ap (λ (x : List Stmt). new ++ x) (sym e) ∙ sym (h.text next)

-- Formulas as they are written.
--
--   Alpha        what a temporal word speaks over: a variable by its number, or a set of actions written out, by its code
--                (bit a of the code for action a)
--   OnePart      the temporal words with one part;  TwoParts  those with two
--   Formula      true, a property by its number, not, or, and, and the temporal words
--   nodes        how many operator words, properties and `true` a formula has
--   depth        how deep it nests
--
-- Assumes nothing.
use Rattle.std.specs.Prelude.{ℕ, ◌+◌, max}

pub data Alpha : Type 0 where
  variable : ℕ → Alpha
  written : ℕ → Alpha

pub data OnePart : Type 0 where
  ex eg ef ax ag af exw egw efw axw agw afw : OnePart

pub data TwoParts : Type 0 where
  eu au euw auw : TwoParts

pub data Formula : Type 0 where
  truth : Formula
  property : ℕ → Formula
  neg : Formula → Formula
  or and : Formula → Formula → Formula
  one : OnePart → Alpha → Formula → Formula
  two : TwoParts → Alpha → Formula → Formula → Formula

abbrev pub nodes : Formula → ℕ
nodes truth = 1
nodes (property p) = 1
nodes (neg f) = 1 + nodes f
nodes (or f g) = 1 + nodes f + nodes g
nodes (and f g) = 1 + nodes f + nodes g
nodes (one w α f) = 1 + nodes f
nodes (two w α f g) = 1 + nodes f + nodes g

abbrev pub depth : Formula → ℕ
depth truth = 1
depth (property p) = 1
depth (neg f) = 1 + depth f
depth (or f g) = 1 + max (depth f) (depth g)
depth (and f g) = 1 + max (depth f) (depth g)
depth (one w α f) = 1 + depth f
depth (two w α f g) = 1 + max (depth f) (depth g)

mod LoanBooks
mod Passed
mod Places

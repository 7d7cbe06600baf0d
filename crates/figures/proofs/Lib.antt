mod Computed
mod Listed
